-- A root without items gives way to its only child; one that was split has two nodes, and room for a third.
use Rattle.std.proofs.Common.{◌≡◌, length, ap, arith, inl, inr}
use Rattle.std.proofs.lemmas.Bool.{cases_lt}
use Rattle.fiba_nodes.specs.Rows.{listed}
use Rattle.fiba_nodes.specs.Stores.{fullness}
use Rattle.fiba_nodes.proofs.Fullness.{full_puts}
use Rattle.fiba_nodes.proofs.Planting.{planted_kid}
use Rattle.fiba_nodes.proofs.rooting.plant.Goals as goal

pub returns-then-len-eq0-clause-planted : goal.returns-then-len-eq0-clause-planted
returns-then-len-eq0-clause-planted g c =
    planted_kid g.M.Monoid.is_value g.M.Monoid.empty g.M.Monoid.op c.args.nodes.now c.free.new.self c.args.at c.args.below c.args.place.left c.args.place.right (listed c.args.open.now.slots) c.args.open.now.last (omega (arith, c.len.ensures.len)) c.requires.opened c.free.ensures.freed c.free.ensures.spare

pub create-requires-clause-room : goal.create-requires-clause-room
create-requires-clause-room g c =
    let k = c.close-closed.ensures in
    elim (cases_lt 3 (length (listed c.args.open.now.slots))) [
      | inl more ↦ let n = k.split more in omega (arith, n, k.spare, c.requires.room)
      | inr le ↦ let n = k.whole le in absurd (c.if-len-eq0-2.false (omega (arith, n, c.len-2.ensures.len)))
    ]

pub returns-then-len-eq0-clause-full : goal.returns-then-len-eq0-clause-full
returns-then-len-eq0-clause-full g c =
    let freed = full_puts c.args.nodes.now c.free.new.self c.args.at _ c.free.ensures.freed in
    let empty : length (listed c.args.open.now.slots) ≡ 0 = omega (arith, c.len.ensures.len, c.if-len-eq0.true) in
    let none : fullness (length (listed c.args.open.now.slots)) ≡ 0 = ap fullness empty in
    omega arith
