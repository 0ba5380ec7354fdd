-- Which due numbers a watermark reaches, found with no look at each.
use Rattle.std.specs.Prelude.{◌≤◌, ◌<◌, ◌*◌, ◌/◌, ℕ, List, length, slice_index}

-- the due numbers by place, and for how many more there is room
pub record DueNumbers : Type 0 where
  pub items : List ℕ
  pub room : ℕ

-- no number from one place on, up to another, is reached
abbrev pub NoneReached : List ℕ → ℕ → ℕ → ℕ → Type 0
NoneReached numbers water from upto = (p : ℕ) → from ≤ p → p < upto → p < length numbers → water < slice_index numbers p

-- the number at a place is reached, and none from another place up to it
pub record IsNextReached (numbers : List ℕ) (water from place : ℕ) : Type 0 where
  pub behind : from ≤ place
  pub within : place < length numbers
  pub reached : slice_index numbers place ≤ water
  pub none_before : NoneReached numbers water from place

-- each block of 32 numbers has one beside it that is no greater than any of them
pub record AreBlocks (numbers blocks : List ℕ) : Type 0 where
  pub enough : length numbers ≤ 32 * length blocks
  pub no_greater : (p : ℕ) → p < length numbers → slice_index blocks (p / 32) ≤ slice_index numbers p

-- and so has each group of 32 blocks
pub record AreGroups (numbers blocks groups : List ℕ) : Type 0 where
  pub enough : length blocks ≤ 32 * length groups
  pub no_greater : (p : ℕ) → p < length numbers → slice_index groups (p / 32 / 32) ≤ slice_index numbers p
