-- What holds of every partial of values.
use Rattle.std.specs.Prelude.{◌≡◌, ℤ, List, FitsSigned, map}
use Rattle.std.specs.Int.{w64}
use Rattle.agg_laws.specs.Laws.{MonoidLaws, total}

-- it is a monoid, the partial of a number of 64 bits is a value, and what single values come to, combined in order, is the partial of them all
pub record IsPartial {M : Type 0} (IsValue : M → Type 0) (empty : M) (op : M → M → M) (of_number : ℤ → M) (of_values : List ℤ → M) : Type 0 where
  pub laws : MonoidLaws IsValue empty op
  pub lifts : (v : ℤ) → FitsSigned w64 v → IsValue (of_number v)
  pub totals : (values : List ℤ) → total empty op (map of_number values) ≡ of_values values
