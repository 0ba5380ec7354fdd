-- No two neighbours so far are the gap apart.
use Rattle.std.proofs.Common.{◌≡◌, ℕ, ◌+◌, ◌<◌, ◌≤◌, false, get_or}
use Rattle.stream_base.specs.declared.kept.Kept.{Kept}
use Rattle.plain_windows.specs.Runs.{is_apart}
use Rattle.plain_windows.proofs.sessions.end_of.Given as goal

abbrev pub invariant-loop-end : goal.invariant-loop-end
invariant-loop-end l = (k : ℕ) (d : Kept) → l.first ≤ k → k + 1 < l.end → is_apart l.gap (get_or l.kept k d) (get_or l.kept (k + 1) d) ≡ false
