-- What a move of the watermark completes, and what a lane takes up for it.
use Rattle.std.specs.Prelude.{◌≡◌, ◌≤◌, ◌<◌, ◌+◌, ◌-◌, ◌*◌, ◌++◌, ℕ, ℤ, List, [], length, max}
use Rattle.stream_base.specs.declared.def.Def.{Def}
use Rattle.stream_base.specs.declared.kept.Kept.{Kept}
use Rattle.stream_base.specs.declared.kind.Kind.{Kind}
use Rattle.stream_base.specs.Model.Changes.{Moment}
use Rattle.stream_base.specs.Model.Windows.{within}
use Rattle.stream_base.specs.Kinds.{length_of, slide_of}
use Rattle.stream_base.specs.Model.Moments.{moment}
use Rattle.slice_lists.specs.Runs.{runs_within}
use Rattle.window_laws.specs.Walk.{due_from, next_start_of}
use Rattle.agg_store.specs.Stored.{Stored, tuples_of}
use Rattle.time_lanes.specs.Lane.{Knows, MissesNoSlice, Laned, fresh_to}
use Rattle.time_lanes.specs.Spans.{IsWindowAt, last_end_by}

-- the starts of the intervals that a move completes
abbrev pub completed_starts : Kind → List Kept → ℕ → ℕ → List ℕ
completed_starts kind kept old new =
    due_from (length_of kind) (slide_of kind) kept (next_start_of kind old) new

-- how many intervals a move completes
abbrev pub row_count : Kind → Stored → ℕ → ℕ → ℕ
row_count kind s old new = length (completed_starts kind (tuples_of s) old new)

-- from where a lane has yet to take up slices
abbrev pub taken_from : {M : Type 0} → Kind → Laned M → ℕ → ℕ
taken_from kind lane old = max (next_start_of kind old) (fresh_to lane)

-- the slices that a lane takes up in a move
abbrev pub slices_due : {M : Type 0} → Kind → Laned M → Stored → ℕ → ℕ → List (List Kept)
slices_due kind lane s old new = runs_within (taken_from kind lane old) (last_end_by kind new) s.slices

-- it has room for them
abbrev pub HasRoomFor : {M : Type 0} → Kind → Stored → ℕ → ℕ → Laned M → Type 0
HasRoomFor kind s old new lane = length (slices_due kind lane s old new) ≤ lane.spare

-- the slices in the intervals that end behind a watermark, up to another
abbrev pub slices_between : Kind → Stored → ℕ → ℕ → List (List Kept)
slices_between kind s old new = runs_within (last_end_by kind old) (last_end_by kind new) s.slices

-- the slices in the last interval that is complete at a watermark
abbrev pub slices_in_last : Kind → Stored → ℕ → List (List Kept)
slices_in_last kind s water =
    runs_within (last_end_by kind water - length_of kind) (last_end_by kind water) s.slices

-- the slices from the first interval on that is open at a watermark, up to the end of the last one that is complete at another
abbrev pub slices_until : Kind → Stored → ℕ → ℕ → List (List Kept)
slices_until kind s old new = runs_within (next_start_of kind old) (last_end_by kind new) s.slices

-- none of the tuples that were dropped lies in an interval of the window that ends above a time
abbrev pub AreApartAbove : Kind → ℕ → List Kept → Type 0
AreApartAbove kind time gone =
    (k : ℕ) → time < k * slide_of kind + length_of kind
    → within (k * slide_of kind) (k * slide_of kind + length_of kind) gone ≡ []

-- a lane may move on from a watermark: it knows the slices, and those of its key's tuples that the store dropped lie in no interval that ends above
pub record MayMove {M : Type 0} (of_values : List ℤ → M) (kind : Kind) (old : ℕ) (gone : List Kept) (s : Stored) (lane : Laned M) : Type 0 where
  pub knows : Knows of_values kind old s lane
  pub apart : AreApartAbove kind old gone

-- of the window at a place, where its lane may move on from a watermark: at each moment with what the store dropped and what it holds
abbrev pub WhereMayMove : {M : Type 0} → (List ℤ → M) → List Def → ℕ → Stored → ℕ → Laned M → (Def → Moment → Type 0) → Type 0
WhereMayMove of_values windows window s water lane Holds =
    (def : Def) (gone : List Kept) (marks : List ℕ) → IsWindowAt windows window def
    → MayMove of_values def.kind water gone s lane → Holds def (moment (gone ++ tuples_of s) marks water)

-- of the window at a place, at each moment with what the store holds
abbrev pub AtMoments : List Def → ℕ → Stored → ℕ → (Def → Moment → Type 0) → Type 0
AtMoments windows window s water Holds =
    (def : Def) (marks : List ℕ) → IsWindowAt windows window def → Holds def (moment (tuples_of s) marks water)

-- of the window at a place, where its lane knows the slices and missed none of complete intervals: by how many slices lie in the intervals that end in a move, and how many a move completes
abbrev pub ByCompleted : {M : Type 0} → (List ℤ → M) → List Def → ℕ → Stored → ℕ → ℕ → Laned M → (ℕ → ℕ → Type 0) → Type 0
ByCompleted of_values windows window s old new lane Holds =
    (def : Def) → IsWindowAt windows window def → Knows of_values def.kind old s lane
    → MissesNoSlice def.kind old s lane
    → Holds (length (slices_between def.kind s old new)) (row_count def.kind s old new)

-- the same where its lane knows the slices: with those in the last interval that was complete before
abbrev pub ByTouched : {M : Type 0} → (List ℤ → M) → List Def → ℕ → Stored → ℕ → ℕ → Laned M → (ℕ → ℕ → Type 0) → Type 0
ByTouched of_values windows window s old new lane Holds =
    (def : Def) → IsWindowAt windows window def → Knows of_values def.kind old s lane
    → Holds (length (slices_between def.kind s old new) + length (slices_in_last def.kind s old))
    (row_count def.kind s old new)

-- the same by all slices from the first interval on that was open, up to the end of the last one that is complete
abbrev pub ByOpen : {M : Type 0} → (List ℤ → M) → List Def → ℕ → Stored → ℕ → ℕ → Laned M → (ℕ → ℕ → Type 0) → Type 0
ByOpen of_values windows window s old new lane Holds =
    (def : Def) → IsWindowAt windows window def → Knows of_values def.kind old s lane
    → Holds (length (slices_until def.kind s old new)) (row_count def.kind s old new)
