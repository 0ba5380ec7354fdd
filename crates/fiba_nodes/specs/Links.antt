-- Nodes that get another parent.
use Rattle.std.specs.Prelude.{◌≡◌, ◌≢◌, ◌<◌, ℕ, List, Some, false}
use Rattle.fiba_nodes.specs.declared.slot.Slot.{Slot}
use Rattle.fiba_nodes.specs.Stores.{Store, look}
use Rattle.fiba_nodes.specs.Trees.{HasUp, KidsAt, only, plain, tally, ups}

-- the node at a number has this parent now, and nothing else changed
pub record IsAdopted {M : Type 0} (old new : Store M) (kid at : ℕ) : Type 0 where
  pub same : (k : ℕ) → plain new k ≡ plain old k
  pub up : ups new kid ≡ Some (Some at)
  pub others : (k : ℕ) → k ≢ kid → look new k ≡ look old k
  pub spare : new.spare ≡ old.spare

-- all children of a row have this parent now, and nothing else changed
pub record AreAdopted {M : Type 0} (old new : Store M) (h : ℕ) (slots : List (Slot M)) (last at : ℕ) : Type 0 where
  pub same : (k : ℕ) → plain new k ≡ plain old k
  pub ups : KidsAt (λ _ _ k. HasUp new h at k) false false slots last
  pub others : (k : ℕ) → (0 < h → tally (only k) slots last ≡ 0) → look new k ≡ look old k
  pub spare : new.spare ≡ old.spare
