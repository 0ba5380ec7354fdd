-- How two stacks keep their aggregates.
use Rattle.std.specs.Prelude.{◌≡◌, ◌≤◌, ◌<◌, ℕ, List, length, take, drop, slice_index_or, All}
use Rattle.agg_laws.specs.Laws.{total}

-- from each place on, the aggregate beside it is that of the values from there to the end
abbrev pub AreSuffixTotals : {M : Type 0} → M → (M → M → M) → List M → List M → ℕ → Type 0
AreSuffixTotals empty op values aggregates from =
    (i : ℕ) → from ≤ i → i < length values → slice_index_or aggregates i empty ≡ total empty op (drop i values)

-- the front stack is the first values, each beside the aggregate from it to the front's end, and the aggregate of the back stack is that of all the other values
pub record AreStacked {M : Type 0} (IsValue : M → Type 0) (empty : M) (op : M → M → M) (values aggregates : List M) (front : ℕ) (back : M) : Type 0 where
  pub are_values : All IsValue values
  pub aligned : length aggregates ≡ length values
  pub within : front ≤ length values
  pub suffixes : AreSuffixTotals empty op (take front values) aggregates 0
  pub running : back ≡ total empty op (drop front values)
