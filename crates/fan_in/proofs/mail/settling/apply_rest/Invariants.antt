use Rattle.std.proofs.Common.{◌≡◌, ℕ}
use Rattle.stream_base.specs.Limits.{Definitions}
use Rattle.fan_in.specs.Owning.{OwnsAfter, entries_in}
use Rattle.fan_in.proofs.mail.settling.apply_rest.Given as goal

abbrev pub invariant-left : goal.invariant-left
invariant-left g l =
    (goal.iterator-left g).can_next l.iterator' ×
    (goal.iterator-left g).is_finite l.iterator' ×
    (l.settled.sent ≡ l.fn.settled.sent) ×
    ((d : Definitions) (sources k : ℕ) → OwnsAfter d sources k (entries_in l.fn.settled.taken) l.fn.owner → OwnsAfter d sources k (entries_in l.settled.taken) l.owner)
