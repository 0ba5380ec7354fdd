-- How a counter goes up.
use Rattle.std.specs.Prelude.{◌≡◌, ◌≤◌, ◌+◌, ◌-◌, ◌*◌, ◌^◌, ℕ, min}

-- one more, up to the last number of 64 bits, where a counter stays
abbrev pub next_count : ℕ → ℕ
next_count n = min (n + 1) (2 ^ 64 - 1)

-- one more was counted
pub record Counts (old new : ℕ) : Type 0 where
  pub counted : new ≡ next_count old
  pub rises : old ≤ new
  pub within : new ≤ old + 1

-- nodes were looked at, so many at most: a count of looks doesn't fall
pub record Looks (most old new : ℕ) : Type 0 where
  pub rises : old ≤ new
  pub within : new ≤ old + most

-- nodes were looked at, and so many steps were made at most
pub record Works (most looked looks made makes : ℕ) : Type 0 where
  pub rises : looked ≤ looks
  pub cost : makes ≤ made + most

-- a change took no more levels than a tree of this reach has, and no more than is near where so many pairs lie behind the change; its work goes by those levels
pub record WorksNear (Near : ℕ → ℕ → Type 0) (behind reach looked looks made makes : ℕ) : Type 0 where
  pub levels : ℕ
  pub near : Near levels behind
  pub within : levels ≤ reach
  pub work : Works (64 * (levels + 2)) looked looks made makes

-- so many steps were made at most, and at most one for each of so many pairs
pub record Spends (most pairs made makes : ℕ) : Type 0 where
  pub cost : makes ≤ made + most
  pub one_each : makes ≤ made + pairs
