-- A value that is combined with another one behind it, in its place.
use Rattle.std.specs.Prelude.{◌≡◌, ◌≤◌, ◌+◌, ℕ, Some, length}
use Rattle.agg_laws.specs.Pairs.{replaced, value_at}
use Rattle.agg_laws.specs.Tables.{Table}

-- the value under a key became its combination with more, in one step at most
pub record Extends {M : Type 0} (op : M → M → M) (key : ℕ) (more : M) (old new : Table M) (made makes : ℕ) : Type 0 where
  pub extended : (value : M) → value_at key old.pairs ≡ Some value → new.pairs ≡ replaced key (op value more) old.pairs
  pub count : length new.pairs ≡ length old.pairs
  pub spare : old.spare ≤ new.spare
  pub cost : makes ≤ made + 1
