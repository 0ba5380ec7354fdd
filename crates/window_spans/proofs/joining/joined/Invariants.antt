-- So far it is the session of the tuple and the sessions so far.
use Rattle.std.proofs.Common.{◌≡◌, take}
use Rattle.window_spans.specs.Spans.{joined_span}
use Rattle.window_spans.proofs.joining.joined.Given as goal

abbrev pub invariant-loop-span : goal.invariant-loop-span
invariant-loop-span l = l.so_far ≡ joined_span l.fn.gap l.fn.time (take l.span-index l.near)
