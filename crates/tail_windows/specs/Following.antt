-- What a follower of a journal is in contracts, and for which journals it stands.
use Rattle.std.specs.Prelude.{◌≡◌, ◌++◌, ℕ, List, [], ◌∷◌, Bool, true, Result, OnErr, OnOk, is_some, unwrap_or}
use Rattle.std.specs.BTreeMap.{is_at}
use Rattle.std.specs.Cmp.Lexicographic.{slice_cmp}
use Rattle.std.specs.Map.{lookup}
use Rattle.std.specs.Ordering.{nat_cmp}
use Rattle.stream_base.specs.declared.entry.Entry.{Entry}
use Rattle.stream_base.specs.declared.what.What.{What}
use Rattle.stream_base.specs.declared.what.What.TheVariants.{Tuple, Mark, Water, Idle, End}
use Rattle.stream_base.specs.Model.Journal.{kept_of}
use Rattle.stream_base.specs.Model.Watermark.{water_of}
use Rattle.stream_base.specs.Model.What.{is_progress}
use Rattle.watermark_table.specs.Watched as table
use Rattle.watermark_table.specs.Watched.{Watched, sources_of}
use Rattle.tail_windows.specs.Samples.{samples_of}
use Rattle.tail_windows.specs.Tails.{tail_changes_after}
use Rattle.tail_windows.specs.Walks.{HasAppended}
use Rattle.tail_windows.specs.declared.change.TailChange.{TailChange}
use Rattle.tail_windows.specs.declared.def.TailDef.{TailDef}
use Rattle.tail_windows.specs.declared.sample.Sample.{Sample}

-- the samples of a key in a list by keys, and none where the key isn't there
abbrev pub list_of : List (List ℕ × List Sample) → List ℕ → List Sample
list_of lists key = unwrap_or (lookup (is_at (slice_cmp nat_cmp key)) lists) []

-- whether the key is there
abbrev pub has_list : List (List ℕ × List Sample) → List ℕ → Bool
has_list lists key = is_some (lookup (is_at (slice_cmp nat_cmp key)) lists)

-- a window of the last tuples, the table of watermarks with the lateness, and the samples by key
pub record Followed : Type 0 where
  pub def : TailDef
  pub waters : Watched
  pub lists : List (List ℕ × List Sample)

-- the allowed lateness, and how many sources there are
abbrev pub lateness_of : Followed → ℕ
lateness_of f = (f.waters).lateness

abbrev pub number_of_sources : Followed → ℕ
number_of_sources f = sources_of f.waters

-- the table stands for a journal, and the samples of each key are those of what is kept of it
pub record StandsFor (f : Followed) (journal : List Entry) : Type 0 where
  pub waters : table.StandsFor f.waters journal
  pub lists : (key : List ℕ) → list_of f.lists key ≡ samples_of (kept_of (lateness_of f) (number_of_sources f) key journal)

-- the same window, lateness and sources
pub record IsOfSame (old new : Followed) : Type 0 where
  pub def : new.def ≡ old.def
  pub lateness : lateness_of new ≡ lateness_of old
  pub sources : number_of_sources new ≡ number_of_sources old

-- the time of a tuple, mark or watermark, and 0 of anything else
abbrev pub time_in : What → ℕ
time_in (Tuple key time value) = time
time_in (Mark key time) = time
time_in (Water time) = time
time_in Idle = 0
time_in End = 0

-- the changes of an entry behind a journal
abbrev pub changes_behind : Followed → List Entry → Entry → List TailChange
changes_behind f journal e = tail_changes_after f.def (lateness_of f) (number_of_sources f) journal e

-- this holds behind each journal for which a follower stands, of each word on progress that leads on to a watermark
abbrev pub ForEachMove : Followed → ℕ → (List Entry → Entry → Type 0) → Type 0
ForEachMove f water holds = (journal : List Entry) (e : Entry) → StandsFor f journal → is_progress e.what ≡ true → water ≡ water_of (number_of_sources f) (journal ++ e ∷ []) → holds journal e

-- an entry comes to each journal for which a follower stands, and its changes are appended, with so many steps at most for each as tuples are selected; or it stands for the journals of before
pub record FollowsEntry {E : Type 0} (old : Followed) (e : Entry) (answer : Result (Unit {0}) E) (new : Followed) (before after : List TailChange) (steps later : ℕ) : Type 0 where
  pub same : IsOfSame old new
  pub stands : (journal : List Entry) → StandsFor old journal → OnOk answer (StandsFor new (journal ++ e ∷ []))
  pub changes : (journal : List Entry) → StandsFor old journal → OnOk answer (after ≡ before ++ changes_behind old journal e)
  pub refused : (journal : List Entry) → StandsFor old journal → OnErr answer (StandsFor new journal)
  pub appended : HasAppended (old.def).count before after steps later
