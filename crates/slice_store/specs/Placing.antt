-- When a tuple or a mark may come, and how a tuple is placed.
use Rattle.std.specs.Prelude.{◌≡◌, ◌≤◌, ◌+◌, ℕ, Bool, List, [], ◌∷◌, Result, OnOk, length, nat_le, if◌then◌else◌}
use Rattle.stream_base.specs.declared.kept.Kept.{Kept}
use Rattle.stream_base.specs.declared.def.Def.{Def}
use Rattle.stream_base.specs.declared.limits.TheConstants.{TIME_MAX}
use Rattle.stream_base.specs.Model.Windows.{first_time, last_time}
use Rattle.slice_store.specs.declared.placed.Placed.{Placed}
use Rattle.slice_store.specs.declared.placed.Placed.TheVariants.{Appended, Joined, Added, Merged}
use Rattle.partials.specs.Apart.{IsReachOver, SpendsNear}
use Rattle.slice_lists.specs.Touched.{slices_from}
use Rattle.slice_store.specs.Following.{refolded}
use Rattle.agg_store.specs.Entered.{slices_near}
use Rattle.agg_store.specs.Stored.{IsAsBefore, IsSliced, Stored, tuples_of}

-- a tuple or a mark may come at a time: there is room for it, the time is within its limit, and the slices are those of these windows
pub record MayTake (windows : List Def) (at : ℕ) (s : Stored) : Type 0 where
  pub room : 1 ≤ s.spare
  pub time : at ≤ TIME_MAX
  pub sliced : IsSliced windows s

-- memory allowing there is room for one tuple or mark more, and the reach is known to be bounded by the slices; none of the room is lost, and all else is as before
pub record Reserves {A E : Type 0} (bounded : ℕ → ℕ → Type 0) (answer : Result A E) (old new : Stored) : Type 0 where
  pub room : OnOk answer (1 ≤ new.spare)
  pub reach : OnOk answer (IsReachOver bounded (length new.slices) new.reach)
  pub spare : old.spare ≤ new.spare
  pub kept : IsAsBefore old new

-- no tuple is of a later time, so that a tuple of this time is the last one
abbrev pub is_last : ℕ → Stored → Bool
is_last time s = nat_le (last_time (tuples_of s)) time

-- how a tuple is placed that enters these slices: it is a slice of its own; it enters one slice and is then the last tuple, or isn't; or it joins two into one
abbrev pub placed_in : List (List Kept) → Bool → Placed
placed_in [] last = Added
placed_in (run ∷ []) last = if last then Appended else Joined
placed_in (run ∷ next ∷ runs) last = Merged

-- where a tuple at a time enters one slice, and doesn't come before that, the steps go by as many levels as are near where so many slices begin later, and by how many tuples are folded anew
abbrev pub PutsNear : (ℕ → ℕ → Type 0) → List Def → ℕ → Stored → ℕ → ℕ → Type 0
PutsNear Near windows time s made makes =
    (run : List Kept) → slices_near windows time s ≡ run ∷ [] → first_time run ≤ time
    → SpendsNear Near (length (slices_from (time + 1) s.slices)) s.reach (2 + refolded time run) made makes
