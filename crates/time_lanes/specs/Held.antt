-- The slices that a lane holds, and the next ones of a store.
use Rattle.std.specs.Prelude.{◌≡◌, ◌≤◌, ◌<◌, ◌+◌, ◌*◌, ◌⊎◌, ℕ, ℤ, List, [], ◌∷◌, drop, length, map, max, min, All}
use Rattle.stream_base.specs.declared.kept.Kept.{Kept}
use Rattle.stream_base.specs.declared.limits.TheConstants.{FINAL, TIME_MAX}
use Rattle.slice_lists.specs.Runs.{runs_within}
use Rattle.window_laws.specs.Walk.{IsFirstFrom, due_from, next_start}
use Rattle.slice_lists.specs.declared.slice.Slice.{Slice}
use Rattle.slice_lists.specs.Slices.{values_of}
use Rattle.agg_store.specs.Stored.{Stored, tuples_of}

-- the partials of slices
abbrev pub partials_of : {M : Type 0} → (List ℤ → M) → List (List Kept) → List M
partials_of of_values runs = map (λ run. of_values (values_of run)) runs

-- the partials of slices in a row, up to where, for how many more there is room, and what is left of the steps that were paid for
pub record Holding (M : Type 0) : Type 0 where
  pub partials : List M
  pub to : ℕ
  pub spare : ℕ
  pub credit : ℕ

-- it holds the same slices, with the same credit and no less room
pub record HasMoreRoom {M : Type 0} (old new : Holding M) : Type 0 where
  pub partials : new.partials ≡ old.partials
  pub to : new.to ≡ old.to
  pub spare : old.spare ≤ new.spare
  pub credit : new.credit ≡ old.credit

-- slices were let go, and these are left: there is no less room, and the credit has paid for the steps
pub record LetsGo {M : Type 0} (left : List M) (old new : Holding M) (steps later : ℕ) : Type 0 where
  pub partials : new.partials ≡ left
  pub spare : old.spare ≤ new.spare
  pub cost : later + new.credit ≤ steps + old.credit

-- it holds exactly the slices from a time on, up to where it goes
abbrev pub HoldsFrom : {M : Type 0} → (List ℤ → M) → ℕ → Stored → Holding M → Type 0
HoldsFrom of_values from s h = h.partials ≡ partials_of of_values (runs_within from h.to s.slices)

-- where the slices from a time on are held before, those from another on are held after
abbrev pub HoldsOn : {M : Type 0} → (List ℤ → M) → Stored → ℕ → ℕ → Holding M → Holding M → Type 0
HoldsOn of_values s from to old new = HoldsFrom of_values from s old → HoldsFrom of_values to s new

-- the slices that begin in an interval and aren't held yet
abbrev pub not_held : {M : Type 0} → Stored → ℕ → ℕ → Holding M → List (List Kept)
not_held s from to held = runs_within (max from held.to) to s.slices

-- the partials that are left where those of the slices go that begin in an interval
abbrev pub left_without : {M : Type 0} → Stored → ℕ → ℕ → Holding M → List M
left_without s from to held = drop (length (runs_within from (min to held.to) s.slices)) held.partials

-- the slice is the first that begins in an interval, the others begin behind its last time, and this is its partial
pub record IsNextIn {M : Type 0} (of_values : List ℤ → M) (slices : List (List Kept)) (from to : ℕ) (found : Slice × M) : Type 0 where
  pub run : List Kept
  pub partial : found.1 ≡ of_values (values_of run)
  pub first : runs_within from to slices ≡ run ∷ runs_within ((found.0).high + 1) to slices
  pub after : from ≤ (found.0).low
  pub before : (found.0).low < to
  pub ordered : (found.0).low ≤ (found.0).high
  pub time : (found.0).high ≤ TIME_MAX

-- the next interval that is due starts so: no slice begins between, and the rest is due from the start behind it
pub record IsNextDue (length slide : ℕ) (s : Stored) (from new low : ℕ) : Type 0 where
  pub multiple : (k : ℕ) × (low ≡ k * slide)
  pub onward : from ≤ low
  pub ends : low + length ≤ new
  pub due : due_from length slide (tuples_of s) from new
      ≡ low ∷ due_from length slide (tuples_of s) (low + slide) new
  pub none_between : runs_within from low s.slices ≡ []

-- the end of the first interval from a start on that holds a tuple, and the final time where there is none
abbrev pub IsEndFrom : ℕ → ℕ → List Kept → ℕ → ℕ → Type 0
IsEndFrom length slide kept from end =
    ((x : Kept) × IsFirstFrom kept from x × (end ≡ max from (next_start length slide x.time) + length))
    ⊎ (All (λ x. x.time < from) kept × (end ≡ FINAL))
