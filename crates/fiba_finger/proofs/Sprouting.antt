-- A tree that got its first item has one node.
use Rattle.std.proofs.Common.{◌≡◌, ◌≤◌, ◌+◌, ◌-◌, ◌++◌, ℕ, zero, suc, Bool, true, List, [], ◌∷◌, Option, None, Some, length, refl, ap, ◌∙◌, arith, length-append}
use Rattle.fiba_nodes.specs.declared.item.Item.{Item}
use Rattle.fiba_nodes.specs.declared.root.Root.{Root}
use Rattle.fiba_nodes.specs.declared.slot.Slot.{Slot}
use Rattle.fiba_nodes.specs.declared.change.Change.TheVariants.{Insert}
use Rattle.fiba_nodes.specs.Stores.{Store}
use Rattle.fiba_nodes.specs.Trees.{IsAt, Look, pairs_at, plain, size, tally, weigh}
use Rattle.fiba_nodes.specs.Changes.{Applies, incoming, pairs_of}
use Rattle.fiba_nodes.specs.Roots.{IsChanged}
use Rattle.fiba_nodes.proofs.Opened.{no_pairs}
use Rattle.fiba_nodes.proofs.Planting.{weigh_low}
use Rattle.fiba_nodes.proofs.Sound.{weight_of}
use Rattle.fiba_finger.proofs.Edges.{opens}

module _ {M : Type 0} where
  tally_none : (w : ℕ → ℕ) (look : Look M) (slots : List (Slot M)) (last : ℕ) → tally (weigh w look 0) slots last ≡ 0
  tally_none w look [] last = weigh_low w look 0 last refl
  tally_none w look (x ∷ xs) last = let a = weigh_low w look 0 x.kid refl in let b = tally_none w look xs last in omega arith

  one : (item : Item M) (taken : Option (Item M)) → length (pairs_of (incoming (Insert item) taken)) ≡ 1
  one item None = refl
  one item (Some old) = refl

  some_pair : (item : Item M) (taken : Option (Item M)) (old new : List (ℕ × M)) → Applies (Insert item) taken old new → 1 ≤ length new
  some_pair item taken old new a =
      let x = ap length a.is ∙ length-append (a.front ++ pairs_of (incoming (Insert item) taken)) a.back in
      let y = length-append a.front (pairs_of (incoming (Insert item) taken)) in
      let z = one item taken in
      omega arith

module _ {M : Type 0} (IsValue : M → Type 0) (empty : M) (op : M → M → M) where
  one_node : (look : Look M) (l : Bool) (at : ℕ) → IsAt IsValue empty op look 1 l true at → size look 1 at ≡ 1
  one_node look l at k =
      let q = opens IsValue empty op look 0 l at k in
      let w = weight_of IsValue empty op look 0 l true at q.0 q.1.is (λ _. 1) in
      let t = tally_none (λ _. 1) look q.0.slots q.0.last in
      omega arith

  taken_at : (new : Store M) (h at spare : ℕ) → h ≤ 1 → 1 ≤ length (pairs_at (plain new) h at) → IsAt IsValue empty op (plain new) h true true at → new.spare + size (plain new) h at ≡ spare → new.spare + h ≡ spare
  taken_at new zero at spare le some k room = let e : length (pairs_at (plain new) 0 at) ≡ 0 = ap length (no_pairs (plain new) 0 at refl) in absurd (omega arith)
  taken_at new (suc zero) at spare le some k room = let o = one_node (plain new) true at k in omega arith
  taken_at new (suc (suc h)) at spare le some k room = absurd (omega arith)

  pub sprout_taken : (old new : Store M) (root grown : Root) (item : Item M) (taken : Option (Item M)) → root.height ≡ 0 → IsChanged IsValue empty op old new root grown true true (Insert item) taken → new.spare + (0 + (grown.height - root.height)) ≡ old.spare
  sprout_taken old new root grown item taken low c =
      let some = some_pair item taken (pairs_at (plain old) root.height root.at) (pairs_at (plain new) grown.height grown.at) c.applies in
      let none = weigh_low (λ _. 1) (plain old) root.height root.at low in
      let h = c.higher in
      let r = c.room in
      let t = taken_at new grown.height grown.at old.spare (omega arith) some c.tree.sound (omega arith) in
      omega arith
