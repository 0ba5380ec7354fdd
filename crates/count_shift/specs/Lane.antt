-- What a lane is in contracts, for which tuples it stands, and what becomes of it.
use Rattle.std.specs.Prelude.{◌≡◌, ◌≤◌, ◌<◌, ◌+◌, ◌-◌, ◌*◌, ◌/◌, ◌^◌, ◌⊎◌, ℕ, List, drop, length, min}
use Rattle.stream_base.specs.declared.kept.Kept.{Kept}
use Rattle.stream_base.specs.Laws.{TimesDoNotFall}
use Rattle.stream_base.specs.Model.Journal.{put_in_order}
use Rattle.count_shift.specs.Counting.{upper}

-- how many first tuples of its key have left, the others in event order, and for how many more there is room
pub record Laned : Type 0 where
  pub gone : ℕ
  pub kept : List Kept
  pub spare : ℕ

-- what a lane keeps: the times of its tuples don't fall, and all that came can be counted
pub record IsLane (gone : ℕ) (kept : List Kept) : Type 0 where
  pub ordered : TimesDoNotFall kept
  pub counted : gone + length kept < 2 ^ 64

-- for how many more tuples there is room in memory and in numbers, where so many came
abbrev pub room_for : ℕ → ℕ → ℕ
room_for memory came = min memory (2 ^ 64 - 1 - came)

-- a lane has the tuples of a key but for first ones that have left: those of whole instances of so many, all of them at or before a time
pub record FollowsTuples (count time : ℕ) (kept : List Kept) (lane : Laned) : Type 0 where
  pub ordered : TimesDoNotFall kept
  pub stay : lane.kept ≡ drop lane.gone kept
  pub whole : lane.gone / count * count ≡ lane.gone
  pub early : lane.gone ≤ upper kept time

-- there is room for one tuple more
abbrev pub HasRoom : Laned → Type 0
HasRoom lane = 1 ≤ lane.spare

-- it has the same tuples, and no less room
pub record HasMoreRoom (old new : Laned) : Type 0 where
  pub gone : new.gone ≡ old.gone
  pub kept : new.kept ≡ old.kept
  pub spare : old.spare ≤ new.spare

-- it has one tuple more, in its place in event order, which took the room of one
pub record TakesIn (x : Kept) (old new : Laned) : Type 0 where
  pub gone : new.gone ≡ old.gone
  pub kept : new.kept ≡ put_in_order old.kept x
  pub ordered : TimesDoNotFall new.kept
  pub spare : new.spare + 1 ≡ old.spare

-- first tuples have left, and all behind them stay
pub record LosesFirst (old new : Laned) : Type 0 where
  pub gone : old.gone ≤ new.gone
  pub kept : new.kept ≡ drop (new.gone - old.gone) old.kept
  pub spare : old.spare ≤ new.spare

-- either none has left, or as many as stay at least
abbrev pub IsPaidFor : Laned → Laned → Type 0
IsPaidFor old new = (new.gone ≡ old.gone) ⊎ (length new.kept ≤ new.gone - old.gone)
