-- What the past of a shard is in contracts.
use Rattle.std.specs.Prelude.{◌≡◌, ◌++◌, ◌∷◌, [], ℕ, List}
use Rattle.stream_base.specs.Limits.{Definitions}
use Rattle.stream_base.specs.declared.entry.Entry.{Entry}
use Rattle.stream_base.specs.Model.Watermark.{water_of}
use Rattle.watermark_table.specs.Watched.{StandsFor, Watched}

-- its definitions, its number of sources, its journal, and for how many more entries there is room
pub record Recorded : Type 0 where
  pub defs : Definitions
  pub sources : ℕ
  pub journal : List Entry
  pub spare : ℕ

-- the watermark behind its journal
abbrev pub water_behind : Recorded → ℕ
water_behind past = water_of past.sources past.journal

-- a table of watermarks that stood for a journal stands for it with this entry more
abbrev pub FollowsEntry : Entry → Watched → Watched → Type 0
FollowsEntry e old new = (journal : List Entry) → StandsFor old journal → StandsFor new (journal ++ e ∷ [])

-- the definitions and the number of sources stay
pub record IsSameShard (old new : Recorded) : Type 0 where
  pub defs : new.defs ≡ old.defs
  pub sources : new.sources ≡ old.sources
