-- Those that lie apart end in turn.
use Rattle.std.proofs.Common.{subst, rules}
use Rattle.window_spans.specs.Spans.{EndInTurn}
use Rattle.window_spans.proofs.Apart.{highs_rise}
use Rattle.context_windows.proofs.mark_windows.MarkWindows.first_open.Goals as goal

pub start_after-requires : goal.start_after-requires
start_after-requires c = subst EndInTurn (search rules) (highs_rise c.self.inside.spans.items c.self.invariant.apart)
