-- Up to which watermark nothing is due of a key, and that a tuple leaves it so.
use Rattle.std.specs.Prelude.{◌≡◌, ◌≤◌, ◌<◌, ℕ, List, []}
use Rattle.stream_base.specs.Limits.{Definitions}
use Rattle.stream_base.specs.declared.kept.Kept.{Kept}
use Rattle.stream_base.specs.Model.Journal.{put_in_order}
use Rattle.stream_base.specs.Model.Moments.{IsWater}
use Rattle.stream_base.specs.declared.limits.TheConstants.{FINAL}
use Rattle.key_windows.specs.Calls.{BringsMore, changes_by_move}

-- up to a due number, a move of the watermark changes nothing of a key, and its state stands there as it is
pub record IsQuiet {K : Type 0} (fits : Definitions → List Kept → List ℕ → ℕ → K → Type 0) (d : Definitions) (key : List ℕ) (kept : List Kept) (marks : List ℕ) (water : ℕ) (state : K) (due : ℕ) : Type 0 where
  pub nothing_changes : (new : ℕ) → water ≤ new → new < due → changes_by_move d key kept marks water new ≡ []
  pub waits : (new : ℕ) → IsWater new → water ≤ new → new < due → fits d kept marks new state

-- a tuple is taken in that leaves what is due: up to each due number up to which the state was quiet it still is
abbrev pub LeavesDue : {K : Type 0} → (Definitions → List Kept → List ℕ → ℕ → K → Type 0) → Definitions → List ℕ → ℕ → Kept → K → K → Type 0
LeavesDue fits d key water x old new =
    (kept : List Kept) (marks : List ℕ) (due : ℕ) → fits d kept marks water old → IsQuiet fits d key kept marks water old due → IsQuiet fits d key (put_in_order kept x) marks water new due

-- a due number of a key is exact: it lies above the watermark, and from each watermark before it to each one from it on something more is complete or settled
pub record IsExact (d : Definitions) (key : List ℕ) (kept : List Kept) (marks : List ℕ) (water due : ℕ) : Type 0 where
  pub above : due ≤ FINAL → water < due
  pub brings : (old new : ℕ) → IsWater old → IsWater new → water ≤ old → old < due → due ≤ new → BringsMore d key kept marks old new

-- a tuple is taken in that leaves what is due: each due number that was exact still is
abbrev pub LeavesExact : {K : Type 0} → (Definitions → List Kept → List ℕ → ℕ → K → Type 0) → Definitions → List ℕ → ℕ → Kept → K → Type 0
LeavesExact fits d key water x old =
    (kept : List Kept) (marks : List ℕ) (due : ℕ) → fits d kept marks water old → IsExact d key kept marks water due → IsExact d key (put_in_order kept x) marks water due

-- a due number of a key whose state stands under a watermark: up to there nothing changes, and from there on something does
pub record IsDueNumber {K : Type 0} (fits : Definitions → List Kept → List ℕ → ℕ → K → Type 0) (d : Definitions) (key : List ℕ) (kept : List Kept) (marks : List ℕ) (water : ℕ) (state : K) (due : ℕ) : Type 0 where
  pub quiet : IsQuiet fits d key kept marks water state due
  pub exact : IsExact d key kept marks water due
