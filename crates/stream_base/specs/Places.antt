-- Where a time stands in a list that is sorted by time.
use Rattle.std.specs.Prelude.{◌≤◌, ◌<◌, ℕ, List, length}
use Rattle.std.specs.List.{AllWithin}

-- so many elements lie before a time: those at the front, and none behind them
pub record IsPlaceOf {X : Type 0} (time_of : X → ℕ) (xs : List X) (time place : ℕ) : Type 0 where
  pub within : place ≤ length xs
  pub before : AllWithin (λ x. time_of x < time) xs 0 place
  pub behind : AllWithin (λ x. time ≤ time_of x) xs place (length xs)
