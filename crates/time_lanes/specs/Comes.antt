-- A tuple that comes to a window, late or not.
use Rattle.std.specs.Prelude.{◌≡◌, ◌++◌, ℕ, ℤ, List, Option}
use Rattle.stream_base.specs.declared.def.Def.{Def}
use Rattle.stream_base.specs.declared.former.Former.{Former}
use Rattle.stream_base.specs.declared.kept.Kept.{Kept}
use Rattle.stream_base.specs.Model.Changes.{Moment}
use Rattle.stream_base.specs.Model.Moments.{moment}
use Rattle.agg_store.specs.Stored.{Stored, tuples_of}
use Rattle.time_lanes.specs.Late.{AreApartAt, IsLate}
use Rattle.time_lanes.specs.Spans.{IsWindowAt}

-- of the window at a place, each key at a watermark, and each tuple of a time
abbrev pub OfEachTuple : List Def → ℕ → ℕ → ℕ → (Def → List ℕ → Moment → Kept → Type 0) → Type 0
OfEachTuple windows window time water Holds =
    (def : Def) (key : List ℕ) (kept : List Kept) (marks : List ℕ) (x : Kept)
    → IsWindowAt windows window def → x.time ≡ time → Holds def key (moment kept marks water) x

-- of the window at a place, and of what the store holds behind what it dropped, where none of that lies in an interval that holds a time
abbrev pub WhereApart : List Def → ℕ → Stored → ℕ → (Def → List Kept → Type 0) → Type 0
WhereApart windows window s time Holds =
    (def : Def) (gone : List Kept) → IsWindowAt windows window def
    → AreApartAt def.kind time gone → Holds def (gone ++ tuples_of s)

-- of the window at a place, where the store has just taken in a tuple of a time and value, and what stood is told: at the moment before that tuple
abbrev pub WhereLate : List Def → ℕ → Stored → ℕ → ℤ → ℕ → List (Option Former) → (Def → Moment → Kept → Type 0) → Type 0
WhereLate windows window s time value water formers Holds =
    (def : Def) (gone before : List Kept) (marks : List ℕ) (x : Kept)
    → IsWindowAt windows window def → x.value ≡ value
    → IsLate def time water gone before x formers s → Holds def (moment (gone ++ before) marks water) x
