-- What a late tuple finds of the intervals that hold it, and what it changes.
use Rattle.std.specs.Prelude.{◌≡◌, ◌+◌, ℕ, List, [], ◌++◌, Option, length, map, All}
use Rattle.stream_base.specs.declared.def.Def.{Def}
use Rattle.stream_base.specs.declared.former.Former.{Former}
use Rattle.stream_base.specs.declared.kept.Kept.{Kept}
use Rattle.stream_base.specs.declared.kind.Kind.{Kind}
use Rattle.stream_base.specs.Laws.{TimesDoNotFall}
use Rattle.stream_base.specs.Model.Journal.{put_in_order}
use Rattle.stream_base.specs.Model.Windows.{starts_holding, within}
use Rattle.stream_base.specs.Kinds.{length_of, slide_of}
use Rattle.agg_store.specs.Stored.{Stored, tuples_of}
use Rattle.time_lanes.specs.Told.{complete_starts, former_at}

-- the starts of a tumbling or sliding window's complete intervals that hold a time
abbrev pub complete_holding : Kind → ℕ → ℕ → List ℕ
complete_holding kind time water = complete_starts (length_of kind) (slide_of kind) time water

-- how many they are
abbrev pub number_holding : Kind → ℕ → ℕ → ℕ
number_holding kind time water = length (complete_holding kind time water)

-- what stood of the complete intervals that hold a time
abbrev pub formers_of : Def → ℕ → ℕ → List Kept → List (Option Former)
formers_of def time water kept =
    map (former_at def.func (length_of def.kind) kept) (complete_holding def.kind time water)

-- none of the tuples that were dropped lies in an interval of the window that holds a time
abbrev pub AreApartAt : Kind → ℕ → List Kept → Type 0
AreApartAt kind time gone =
    All (λ low. within low (low + length_of kind) gone ≡ [])
    (starts_holding (length_of kind) (slide_of kind) time)

-- what a tuple left that has been put: the store holds it in its place among those before, and what stood is told of those
pub record IsLate (def : Def) (time water : ℕ) (gone before : List Kept) (x : Kept) (formers : List (Option Former)) (s : Stored) : Type 0 where
  pub at : x.time ≡ time
  pub put : tuples_of s ≡ put_in_order before x
  pub ordered : TimesDoNotFall (gone ++ before)
  pub apart : AreApartAt def.kind time gone
  pub stood : formers ≡ formers_of def time water (gone ++ before)
