-- What the calls of a slot promise, of all lists for which it stands.
use Rattle.std.specs.Prelude.{◌≡◌, ◌≤◌, ◌+◌, ◌++◌, ℕ, Bool, true, List, Result, IfOk, OnOk}
use Rattle.std.specs.BTreeSet.{insert_key}
use Rattle.std.specs.Ordering.{nat_cmp}
use Rattle.key_windows.specs.Calls.{Fitting, changes_by_mark, changes_by_move, changes_by_put}
use Rattle.key_windows.specs.Dues.{IsDueNumber}
use Rattle.stream_base.specs.Limits.{Definitions}
use Rattle.stream_base.specs.declared.change.Change.{Change}
use Rattle.stream_base.specs.declared.kept.Kept.{Kept}
use Rattle.stream_base.specs.Model.Changes.{Moment}
use Rattle.stream_base.specs.Model.Journal.{put_in_order}
use Rattle.stream_base.specs.Model.Moments.{moment}
use Rattle.shard_core.specs.Engines.{SlotFits}
use Rattle.shard_core.specs.Told.{spare_of}
use Rattle.shard_core.specs.declared.slot.Slot.{Slot}
use Rattle.shard_core.specs.declared.told.Told.{Told}

-- these changes were told behind the earlier ones
abbrev pub AddsChanges : List Change → Told → Told → Type 0
AddsChanges changes told later = later.log.items ≡ told.log.items ++ changes

-- no more room for changes was taken than was promised of a slot
abbrev pub TakesPromised : {K : Type 0} → (K → ℕ) → Told → Told → Slot K → Type 0
TakesPromised promise_of told later slot = spare_of told ≤ spare_of later + promise_of slot.state

module _ {K : Type 0} (fits : Fitting K) (d : Definitions) where
  -- this holds of all lists for which a slot stands
  abbrev pub ForSlot : Slot K → (List Kept → List ℕ → Type 0) → Type 0
  ForSlot slot holds = (kept : List Kept) (marks : List ℕ) → SlotFits fits d kept marks slot → holds kept marks

  -- a slot that took in a tuple stands for the same lists with the tuple
  abbrev pub SlotFitsWithTuple : {T E : Type 0} → Kept → Slot K → Slot K → Result T E → Type 0
  SlotFitsWithTuple x old new answer = ForSlot old (λ kept marks. OnOk answer (SlotFits fits d (put_in_order kept x) marks new))

  -- one that took in a mark stands for them with the mark
  abbrev pub SlotFitsWithMark : {T E : Type 0} → ℕ → Slot K → Slot K → Result T E → Type 0
  SlotFitsWithMark time old new answer = ForSlot old (λ kept marks. OnOk answer (SlotFits fits d kept (insert_key nat_cmp marks time) new))

  -- and one that moved to a watermark stands for them there
  abbrev pub SlotFitsMoved : ℕ → Slot K → Slot K → Type 0
  SlotFitsMoved water old new = ForSlot old (λ kept marks. fits d kept marks water new.state)

  module _ (key_of : K → List ℕ) where
    -- a tuple taken in tells the changes that it makes of the key
    abbrev pub TellsPut : {T E : Type 0} → Kept → Slot K → Told → Told → Result T E → Type 0
    TellsPut x old told later answer = ForSlot old (λ kept marks. OnOk answer (AddsChanges (changes_by_put d (key_of old.state) kept marks old.water x) told later))

    -- a mark those that it makes
    abbrev pub TellsMark : {T E : Type 0} → ℕ → Slot K → Told → Told → Result T E → Type 0
    TellsMark time old told later answer = ForSlot old (λ kept marks. OnOk answer (AddsChanges (changes_by_mark d (key_of old.state) kept marks old.water time) told later))

    -- and a move to a watermark those that it makes
    abbrev pub TellsMove : ℕ → Slot K → Told → Told → Type 0
    TellsMove water old told later = ForSlot old (λ kept marks. AddsChanges (changes_by_move d (key_of old.state) kept marks old.water water) told later)

    -- a tuple taken in takes no more steps than some bound on what leads from the key before it to the key with it
    abbrev pub PutStaysWithin : {T E : Type 0} → (Definitions → List ℕ → Moment → Moment → ℕ → ℕ → Type 0) → Kept → Slot K → ℕ → ℕ → Result T E → Type 0
    PutStaysWithin bounds x old steps later answer =
        ForSlot old (λ kept marks. OnOk answer ((bound : ℕ) × bounds d (key_of old.state) (moment kept marks old.water) (moment (put_in_order kept x) marks old.water) x.time bound × (later ≤ steps + bound)))

    -- a mark no more than such a bound with the mark
    abbrev pub MarkStaysWithin : {T E : Type 0} → (Definitions → List ℕ → Moment → Moment → ℕ → ℕ → Type 0) → ℕ → Slot K → ℕ → ℕ → Result T E → Type 0
    MarkStaysWithin bounds time old steps later answer =
        ForSlot old (λ kept marks. OnOk answer ((bound : ℕ) × bounds d (key_of old.state) (moment kept marks old.water) (moment kept (insert_key nat_cmp marks time) old.water) time bound × (later ≤ steps + bound)))

    -- and a move to a watermark no more than one on what leads there
    abbrev pub MoveStaysWithin : (Definitions → List ℕ → Moment → Moment → ℕ → Type 0) → ℕ → Slot K → ℕ → ℕ → Type 0
    MoveStaysWithin bounds water old steps later =
        ForSlot old (λ kept marks. (bound : ℕ) × bounds d (key_of old.state) (moment kept marks old.water) (moment kept marks water) bound × (later ≤ steps + bound))

    -- a number says up to which watermark nothing is due of a slot
    abbrev pub IsDueOfSlot : Slot K → ℕ → Type 0
    IsDueOfSlot slot due = ForSlot slot (λ kept marks. IsDueNumber fits d (key_of slot.state) kept marks slot.water slot.state due)

    -- where a tuple is answered to leave what is due, a number that said so before says so with the tuple
    abbrev pub KeepsDueNumbers : {E : Type 0} → Kept → Slot K → Slot K → Result Bool E → Type 0
    KeepsDueNumbers x old new answer =
        (kept : List Kept) (marks : List ℕ) (due : ℕ) → SlotFits fits d kept marks old → IsDueNumber fits d (key_of old.state) kept marks old.water old.state due
        → IfOk answer (λ stays. stays ≡ true → IsDueNumber fits d (key_of old.state) (put_in_order kept x) marks old.water new.state due)
