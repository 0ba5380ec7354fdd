-- The sum of a row, partly made.
use Rattle.std.specs.Prelude.{◌≡◌, ℕ, Bool, List, fold}
use Rattle.agg_laws.specs.Laws.{total}
use Rattle.agg_laws.specs.Pairs.{values_of}
use Rattle.fiba_nodes.specs.declared.slot.Slot.{Slot}
use Rattle.fiba_nodes.specs.Trees.{AreValues, Look, TreesAt, pairs_at, shown}

-- the sum so far and what is left come to what the row comes to
pub record IsSummed {M : Type 0} (IsValue : M → Type 0) (empty : M) (op : M → M → M) (look : Look M) (h : ℕ) (l r : Bool) (slots : List (Slot M)) (last : ℕ) (left : Bool) (rest : List (Slot M)) (sum : M) : Type 0 where
  pub items : AreValues IsValue rest
  pub kids : TreesAt IsValue empty op look h left r rest last
  pub value : fold op sum (values_of (shown left r (pairs_at look h) rest last)) ≡ total empty op (values_of (shown l r (pairs_at look h) slots last))
