-- What a walk over the ends of a key's periods appends.
use Rattle.std.specs.Prelude.{◌≡◌, ◌+◌, ◌*◌, ◌≤◌, ◌<◌, ◌==◌, ◌&&◌, ◌++◌, ℕ, Bool, true, false, not, List, length, map, filter, drop, Option, None, Some, if◌then◌else◌, nat_lt, nat_le, All}
use Rattle.std.specs.List.{Contains, filter_map}
use Rattle.stream_base.specs.declared.kept.Kept.{Kept}
use Rattle.stream_base.specs.declared.limits.TheConstants.{JOURNAL_MAX, TIME_MAX}
use Rattle.stream_base.specs.Model.Journal.{put_in_order}
use Rattle.tail_windows.specs.Samples.{before_in, ends_in, row_before, sample_of, samples_of}
use Rattle.tail_windows.specs.Tails.{tail_changes_between}
use Rattle.tail_windows.specs.declared.change.TailChange.{TailChange}
use Rattle.tail_windows.specs.declared.change.TailChange.TheVariants.{New, Again}
use Rattle.tail_windows.specs.declared.def.TailDef.{TailDef}
use Rattle.tail_windows.specs.declared.reach.Reach.{Reach}
use Rattle.tail_windows.specs.declared.row.TailRow.{TailRow}
use Rattle.tail_windows.specs.declared.sample.Sample.{Sample}
use Rattle.tail_windows.specs.declared.stood.Stood.{Stood}
use Rattle.tail_windows.specs.declared.stood.Stood.TheVariants.{Nothing, AllBut, Each}

-- a window of the last tuples is within its limits
pub record IsTailDef (def : TailDef) : Type 0 where
  pub some : 1 ≤ def.count
  pub few : def.count ≤ JOURNAL_MAX
  pub period : 1 ≤ def.period
  pub short : def.period ≤ TIME_MAX

-- whether a row of the period that ends there stood
abbrev pub stood_at : Stood → ℕ → Bool
stood_at Nothing at = false
stood_at (AllBut other) at = not (at == other)
stood_at Each at = true

-- what is known of the periods with these ends before a sample comes to the one that ends there
abbrev pub StoodBefore : List ℕ → ℕ → Stood → Type 0
StoodBefore ends at Nothing = ⊥
StoodBefore ends at (AllBut other) = (other ≡ at) × (Contains ends at → ⊥)
StoodBefore ends at Each = Contains ends at

-- a row that stands: it newly does, or it stood
abbrev pub change_to : Bool → TailRow → TailChange
change_to stood row = if stood then Again row else New row

-- what becomes of a period's end
abbrev pub fate : TailDef → List ℕ → List Sample → Reach → ℕ → Option TailChange
fate def key samples reach at =
    if nat_lt reach.most (length (before_in at samples)) then None
    else Some (change_to (stood_at reach.stood at) (row_before def key samples at))

-- the changes of the periods that hold a sample at or behind a place
unfoldable pub changes_from : TailDef → List ℕ → List Sample → Reach → ℕ → List TailChange
changes_from def key samples reach place =
    filter_map (fate def key samples reach) (filter (λ at. nat_le at reach.water) (ends_in def.period (drop place samples)))

-- the changes by a move of the watermark alone: each end after the old one and up to the new one comes
abbrev pub moved_changes : TailDef → List ℕ → ℕ → ℕ → List Sample → List TailChange
moved_changes def key old new samples = map (λ at. New (row_before def key samples at)) (filter (λ at. nat_lt old at && nat_le at new) (ends_in def.period samples))

-- what one tuple more changes of a key's kept tuples under a watermark
abbrev pub changes_by_tuple : TailDef → List ℕ → List Kept → ℕ → Kept → List TailChange
changes_by_tuple def key kept water x = tail_changes_between def key kept water (put_in_order kept x) water

-- this holds of all kept tuples with these samples, and of each tuple with that sample which comes at a later position
abbrev pub ForEachNext : List Sample → Sample → (List Kept → Kept → Type 0) → Type 0
ForEachNext samples sample holds = (kept : List Kept) (x : Kept) → samples_of kept ≡ samples → sample_of x ≡ sample → All (λ y. y.position < x.position) kept → holds kept x

-- changes are appended, with so many steps at most for each
pub record HasAppended (count : ℕ) (old new : List TailChange) (steps later : ℕ) : Type 0 where
  pub done : List TailChange
  pub items : new ≡ old ++ done
  pub work : later ≤ steps + count * length done
