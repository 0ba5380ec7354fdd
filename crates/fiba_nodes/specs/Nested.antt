-- A row with one of its children opened, and what it becomes.
use Rattle.std.specs.Prelude.{◌≡◌, ◌≤◌, ◌+◌, ◌-◌, ◌++◌, ℕ, suc, Bool, false, List, length}
use Rattle.fiba_nodes.specs.declared.slot.Slot.{Slot}
use Rattle.fiba_nodes.specs.Stores.{Store, look}
use Rattle.fiba_nodes.specs.Trees.{AreLinked, AreValues, IsAt, IsLinked, Look, Moves, Owned, TreesAt, only, pairs_at, plain, row_size, row_times, size, times, woven}
use Rattle.fiba_nodes.specs.Kids.{OthersAt, before, behind, kid_of, left_of, others, right_of}

-- how often a number is one of its nodes
abbrev pub nested_times : {M : Type 0} → ℕ → Look M → ℕ → List (Slot M) → ℕ → ℕ → List (Slot M) → ℕ → ℕ
nested_times k look h slots last i child end =
    others (times k look (suc h)) slots last i + (only k (kid_of slots last i) + row_times k look h child end)

-- how many nodes it has
abbrev pub nested_size : {M : Type 0} → Look M → ℕ → List (Slot M) → ℕ → ℕ → List (Slot M) → ℕ → ℕ
nested_size look h slots last i child end =
    others (size look (suc h)) slots last i + (1 + row_size look h child end)

-- its pairs
abbrev pub nested_pairs : {M : Type 0} → Look M → ℕ → List (Slot M) → ℕ → ℕ → List (Slot M) → ℕ → List (ℕ × M)
nested_pairs look h slots last i child end =
    before (pairs_at look (suc h)) slots i ++ woven (pairs_at look h) child end ++ behind (pairs_at look (suc h)) slots last i

-- the child of a row at a place is opened; all else in the row is sound
pub record IsNested {M : Type 0} (IsValue : M → Type 0) (empty : M) (op : M → M → M) (store : Store M) (h : ℕ) (left right : Bool) (slots : List (Slot M)) (last i : ℕ) (child : List (Slot M)) (end : ℕ) : Type 0 where
  pub within : i ≤ length slots
  pub items : AreValues IsValue slots
  pub beside : OthersAt (λ l r k. IsAt IsValue empty op (plain store) (suc h) l r k) left right slots last i
  pub child_items : AreValues IsValue child
  pub child_kids : TreesAt IsValue empty op (plain store) h (left_of left slots i) (right_of right slots i) child end
  pub owned : Owned (look store) (λ k. nested_times k (plain store) h slots last i child end)
  pub linked : OthersAt (λ _ _ k. IsLinked store (suc h) k) false false slots last i
  pub child_linked : AreLinked store h child end

-- the opened child has items, be it with those of a neighbour, which is gone then
pub record IsFilled {M : Type 0} (IsValue : M → Type 0) (empty : M) (op : M → M → M) (old new : Store M) (h : ℕ) (left right : Bool) (slots : List (Slot M)) (last i : ℕ) (child : List (Slot M)) (end : ℕ) (slots' : List (Slot M)) (last' i' : ℕ) (child' : List (Slot M)) (end' : ℕ) : Type 0 where
  pub nested : IsNested IsValue empty op new h left right slots' last' i' child' end'
  pub pairs : nested_pairs (plain new) h slots' last' i' child' end' ≡ nested_pairs (plain old) h slots last i child end
  pub moves : Moves (look old) (look new) (λ k. nested_times k (plain old) h slots last i child end) (λ k. nested_times k (plain new) h slots' last' i' child' end')
  pub room : new.spare + nested_size (plain new) h slots' last' i' child' end' ≡ old.spare + nested_size (plain old) h slots last i child end
  pub some : 1 ≤ length child'
  pub fits : length slots' + (1 - length child) ≤ length slots
  pub split : 4 ≤ length child' → 1 ≤ new.spare
  pub freed : length child ≡ 0 → 1 ≤ new.spare

-- the opened child is closed again, so the row is sound as a whole
pub record IsSettled {M : Type 0} (IsValue : M → Type 0) (empty : M) (op : M → M → M) (old new : Store M) (h : ℕ) (left right : Bool) (slots : List (Slot M)) (last i : ℕ) (child : List (Slot M)) (end : ℕ) (row : List (Slot M)) (rest : ℕ) : Type 0 where
  pub fits : length row ≤ length slots + (length child - 3)
  pub items : AreValues IsValue row
  pub kids : TreesAt IsValue empty op (plain new) (suc h) left right row rest
  pub pairs : woven (pairs_at (plain new) (suc h)) row rest ≡ nested_pairs (plain old) h slots last i child end
  pub moves : Moves (look old) (look new) (λ k. nested_times k (plain old) h slots last i child end) (λ k. row_times k (plain new) (suc h) row rest)
  pub room : new.spare + row_size (plain new) (suc h) row rest ≡ old.spare + nested_size (plain old) h slots last i child end
  pub linked : AreLinked new (suc h) row rest
