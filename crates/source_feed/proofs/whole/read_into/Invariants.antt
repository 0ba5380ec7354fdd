-- The bytes so far are what the source gave.
use Rattle.std.proofs.Common.{◌≡◌, ◌≤◌, ◌<◌, ◌+◌, ◌-◌, ◌++◌, length, false, IfSome}
use Rattle.outside.specs.Outside.{KeepsWord}
use Rattle.source_feed.proofs.whole.read_into.Given as goal

abbrev pub invariant-pieces : goal.invariant-pieces
invariant-pieces g l =
    let old = g.S.Source.reads l.fn.source in
    let now = g.S.Source.reads l.source in
    (now.place ≡ old.place)
    × (now.given ≡ old.given ++ (g.B.Store.held l.store))
    × (now.faults ≡ old.faults)
    × (g.S.Source.told l.source ≡ g.S.Source.told l.fn.source)
    × (0 < length (g.B.Store.held l.store) → now.ended ≡ false)
    × (0 < length (g.B.Store.held l.store) → IfSome (g.S.Source.told l.source) (KeepsWord now))
    × (l.len ≡ length (g.B.Store.held l.store))
    × (l.len ≤ l.limit + 1)

abbrev pub decreases-pieces : goal.decreases-pieces
decreases-pieces g l = l.limit + 1 - l.len
