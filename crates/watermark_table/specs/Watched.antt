-- What a table of watermarks is in contracts, and which journals it stands for.
use Rattle.std.specs.Prelude.{◌≡◌, ◌≤◌, ◌<◌, ◌++◌, ◌∷◌, [], ℕ, List, length}
use Rattle.stream_base.specs.declared.entry.Entry.{Entry}
use Rattle.stream_base.specs.declared.limits.TheConstants.{TIME_MAX}
use Rattle.stream_base.specs.declared.what.What.TheVariants.{Water, Idle, End}
use Rattle.stream_base.specs.Model.Watermark.{water_of}
use Rattle.stream_base.specs.Model.What.{water_time}
use Rattle.watermark_table.specs.declared.standing.Standing.{Standing}
use Rattle.watermark_table.specs.Standings.{standings_in}

-- a lateness, where each source stands, and the greatest watermark so far
pub record Watched : Type 0 where
  pub lateness : ℕ
  pub standings : List Standing
  pub water : ℕ

-- how many sources there are
abbrev pub sources_of : Watched → ℕ
sources_of w = length w.standings

-- the sources stand as after a journal, and the watermark is the journal's
pub record StandsFor (w : Watched) (journal : List Entry) : Type 0 where
  pub standings : w.standings ≡ standings_in (sources_of w) journal
  pub water : w.water ≡ water_of (sources_of w) journal

-- a watermark of a source
abbrev pub water_entry : ℕ → ℕ → Entry
water_entry source time = record { source = source; what = Water time }

-- the word of a source that it is idle
abbrev pub idle_entry : ℕ → Entry
idle_entry source = record { source = source; what = Idle }

-- the end of a source
abbrev pub end_entry : ℕ → Entry
end_entry source = record { source = source; what = End }

-- the same sources and lateness
pub record IsSameTable (old new : Watched) : Type 0 where
  pub lateness : new.lateness ≡ old.lateness
  pub sources : sources_of new ≡ sources_of old

-- a table can take in an entry: it is of one of its sources, and the watermark that it tells is within the limit
pub record CanTake (w : Watched) (e : Entry) : Type 0 where
  pub source : e.source < sources_of w
  pub time : water_time e.what ≤ TIME_MAX

-- an answer is the watermark behind one more entry, of each journal for which the table stands
abbrev pub IsWaterBehind : Watched → Entry → ℕ → Type 0
IsWaterBehind w e answer = (journal : List Entry) → StandsFor w journal → answer ≡ water_of (sources_of w) (journal ++ e ∷ [])

-- a table takes in an entry: it then stands for the journals with it, and the answer is the watermark behind it
pub record HasTaken (old : Watched) (e : Entry) (new : Watched) (answer : ℕ) : Type 0 where
  pub same : IsSameTable old new
  pub stands : (journal : List Entry) → StandsFor old journal → StandsFor new (journal ++ e ∷ [])
  pub water : IsWaterBehind old e answer
