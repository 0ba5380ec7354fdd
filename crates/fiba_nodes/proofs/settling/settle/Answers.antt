-- The opened child has items now; it is closed, and what it became stands in its place.
use Rattle.fiba_nodes.specs.Rows.{listed}
use Rattle.fiba_nodes.specs.Stores.{full_nodes, fullness, held, look}
use Rattle.fiba_nodes.specs.Kids.{kid_of}
use Rattle.std.proofs.Common.{◌≡◌, ◌≤◌, ◌<◌, ◌+◌, ◌-◌, ℕ, length, ap, ◌∙◌, arith, inl, inr}
use Rattle.std.proofs.lemmas.Bool.{cases_lt}
use Rattle.fiba_nodes.proofs.Kids.{length-spliced}
use Rattle.fiba_nodes.proofs.Nesting.{settled}
use Rattle.fiba_nodes.proofs.settling.settle.Goals as goal

pub close-closed-requires-clause-room : goal.close-closed-requires-clause-room
close-closed-requires-clause-room g c more =
    let f = c.filled-nest.ensures.fills.filled in
    elim (cases_lt 0 (length (listed c.args.nest.now.child.slots))) [
      | inl some ↦ let three = c.most_items-most.ensures.some (omega arith) in f.split (omega arith)
      | inr none ↦ f.freed (omega arith)
    ]

closed_few : (child full most nodes : ℕ) → child ≤ 4 → (1 ≤ child → most ≡ 3) → (1 ≤ child → full ≡ child) → (full ≤ most → nodes ≡ 0) → (most < full → nodes ≡ 1) → nodes ≤ (child - 3) + (1 - child)
closed_few child full most nodes few some same whole split =
    elim (cases_lt 0 child) [
      | inl lt ↦
          let m = some (omega arith) in
          let e = same (omega arith) in
          elim (cases_lt most full) [ inl more ↦ let n = split more in omega arith | inr le ↦ let n = whole le in omega arith ]
      | inr z ↦ elim (cases_lt most full) [ inl more ↦ let n = split more in omega arith | inr le ↦ let n = whole le in omega arith ]
    ]

pub returns-clause-settled : goal.returns-clause-settled
returns-clause-settled g c =
    let m = g.M.Monoid in
    let nest = c.args.nest.now in
    let full = c.filled-nest.result in
    let f = c.filled-nest.ensures.fills.filled in
    let closed = rw (c.kid-at.ensures, c.place-inner.ensures.left, c.place-inner.ensures.right) at c.close-closed.ensures.closed in
    let few = closed_few (length (listed nest.child.slots)) (length (listed full.child.slots)) c.most_items-most.result (length (listed c.close-closed.result.slots)) c.most_items-most.ensures.few c.most_items-most.ensures.some (λ some. ap (λ n. length (listed n.child.slots)) (c.filled-nest.ensures.same some)) c.close-closed.ensures.whole c.close-closed.ensures.split in
    rw (c.spliced.ensures.slots, c.spliced.ensures.last) (settled m.is_value m.empty m.op c.args.nodes.now c.filled-nest.new.nodes c.close-closed.new.nodes c.args.height c.args.place.left c.args.place.right (listed nest.row.slots) nest.row.last nest.at (listed nest.child.slots) nest.child.last (listed full.row.slots) full.row.last full.at (listed full.child.slots) full.child.last (listed c.close-closed.result.slots) c.close-closed.result.last f closed few)

pub returns-clause-spare : goal.returns-clause-spare
returns-clause-spare g c =
    let filled = c.filled-nest.ensures.fills.spare in
    let spare = c.close-closed.ensures.spare in
    elim (cases_lt c.most_items-most.result (length (listed c.filled-nest.result.child.slots))) [
      | inl more ↦ let n = c.close-closed.ensures.split more in omega arith
      | inr le ↦ let n = c.close-closed.ensures.whole le in omega arith
    ]

pub returns-clause-kept : goal.returns-clause-kept
returns-clause-kept g c some =
    let nest = c.args.nest.now in
    let full = c.filled-nest.result in
    let same = ap (λ n. length (listed n.row.slots)) (c.filled-nest.ensures.same some) in
    let long = ap length c.spliced.ensures.slots in
    let row = length-spliced (listed full.row.slots) full.at (listed c.close-closed.result.slots) c.close-closed.result.last in
    omega (arith, same, long, row)

pub returns-clause-taken : goal.returns-clause-taken
returns-clause-taken g c some =
    let same = ap (λ n. length (listed n.child.slots)) (c.filled-nest.ensures.same some) in
    let still = ap (λ n. n.spare) (c.filled-nest.ensures.still some) in
    let three = c.most_items-most.ensures.some some in
    let few = c.most_items-most.ensures.few in
    let spare = c.close-closed.ensures.spare in
    elim (cases_lt c.most_items-most.result (length (listed c.filled-nest.result.child.slots))) [
      | inl more ↦ let n = c.close-closed.ensures.split more in omega arith
      | inr le ↦ let n = c.close-closed.ensures.whole le in omega arith
    ]

pub returns-clause-even : goal.returns-clause-even
returns-clause-even g c some =
    let nest = c.args.nest.now in
    let full = c.filled-nest.result in
    let same = c.filled-nest.ensures.same some in
    let still = c.filled-nest.ensures.still some in
    let count : fullness (length (listed full.child.slots)) ≡ fullness (length (listed nest.child.slots)) = ap (λ n. fullness (length (listed n.child.slots))) same in
    let kid : c.kid-at.result ≡ kid_of (listed nest.row.slots) nest.row.last nest.at = c.kid-at.ensures ∙ ap (λ n. kid_of (listed n.row.slots) n.row.last n.at) same in
    let was : fullness (held (look c.filled-nest.new.nodes c.kid-at.result)) ≡ fullness (held (look c.args.nodes.now (kid_of (listed nest.row.slots) nest.row.last nest.at))) = ap (λ k. fullness (held (look c.filled-nest.new.nodes k))) kid ∙ ap (λ s. fullness (held (look s (kid_of (listed nest.row.slots) nest.row.last nest.at)))) still in
    let before : full_nodes c.filled-nest.new.nodes ≡ full_nodes c.args.nodes.now = ap full_nodes still in
    let three = c.most_items-most.ensures.some some in
    let closed = c.close-closed.ensures.full (omega arith) in
    omega arith

pub returns-clause-full : goal.returns-clause-full
returns-clause-full g c =
    let nest = c.args.nest.now in
    let full = c.filled-nest.result in
    elim (cases_lt 0 (length (listed nest.child.slots))) [
      | inl some ↦ let e = returns-clause-even g c (omega arith) in omega arith
      | inr none ↦
          let two = c.most_items-most.ensures.none (omega arith) in
          let closed = c.close-closed.ensures.thin (omega arith) in
          let kid : fullness (held (look c.filled-nest.new.nodes c.kid-at.result)) ≡ fullness (held (look c.filled-nest.new.nodes (kid_of (listed full.row.slots) full.row.last full.at))) = ap (λ k. fullness (held (look c.filled-nest.new.nodes k))) c.kid-at.ensures in
          let filled = c.filled-nest.ensures.fills.full in
          omega arith
    ]
