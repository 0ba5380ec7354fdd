-- What the table of keys keeps of each key.
use Rattle.std.specs.Prelude.{◌≡◌, ◌≤◌, ◌<◌, ◌⊎◌, ℕ, List, [], ◌∷◌, ◌++◌, Option, None, Some, ◌+◌, Result, OnOk, OnErr, length, slice_index, slice_index_or, sum_by, ◌≢◌, EachIndex}
use Rattle.key_windows.specs.Calls.{Call, changes_by_move}
use Rattle.key_windows.specs.Dues.{IsDueNumber}
use Rattle.key_windows.specs.Calls.Call.{Move}
use Rattle.std.specs.List.{HoldsAt}
use Rattle.stream_base.specs.Limits.{Definitions}
use Rattle.stream_base.specs.declared.change.Change.{Change}
use Rattle.stream_base.specs.declared.entry.Entry.{Entry}
use Rattle.stream_base.specs.declared.kept.Kept.{Kept}
use Rattle.stream_base.specs.declared.limits.TheConstants.{TIME_MAX}
use Rattle.stream_base.specs.declared.what.What.{What}
use Rattle.stream_base.specs.Model.Changes.{Moment, changes_after}
use Rattle.stream_base.specs.Model.Journal.{kept_of, marks_of}
use Rattle.stream_base.specs.Model.Moments.{IsWater, moment}
use Rattle.stream_base.specs.Model.Watermark.{water_of}
use Rattle.shard_core.specs.Placed.{AreByKey, place_in, places_reached}
use Rattle.shard_core.specs.Recorded.{Recorded}
use Rattle.shard_core.specs.Shard.{IsKnown}
use Rattle.shard_core.specs.declared.keys.KeyTable.{KeyTable}
use Rattle.shard_core.specs.declared.slot.Slot.{Slot}
use Rattle.shard_core.specs.declared.told.Told.{Told}

-- a slot stands for the same as before: only what it has room for may differ
pub record IsSameSlot {K : Type 0} (key_of : K → List ℕ) (fits : Definitions → List Kept → List ℕ → ℕ → K → Type 0) (next_position : K → ℕ) (d : Definitions) (old new : Slot K) : Type 0 where
  pub same_key : key_of new.state ≡ key_of old.state
  pub same_next : next_position new.state ≡ next_position old.state
  pub same_water : new.water ≡ old.water
  pub still_fits : (kept : List Kept) (marks : List ℕ) (water : ℕ) → fits d kept marks water old.state → fits d kept marks water new.state

-- a slot stands for these lists, under its own watermark
abbrev pub SlotFits : {K : Type 0} → (Definitions → List Kept → List ℕ → ℕ → K → Type 0) → Definitions → List Kept → List ℕ → Slot K → Type 0
SlotFits fits d kept marks slot = fits d kept marks slot.water slot.state

-- a slot that refused stands for the same as before, and no change was told and no step taken
pub record HasRefused {K : Type 0} (key_of : K → List ℕ) (fits : Definitions → List Kept → List ℕ → ℕ → K → Type 0) (next_position : K → ℕ) (d : Definitions) (old new : Slot K) (told told_then : Told) (steps later : ℕ) : Type 0 where
  pub same : IsSameSlot key_of fits next_position d old new
  pub nothing : told_then.log.items ≡ told.log.items
  pub no_step : later ≡ steps

-- there are lists for which a slot stands
abbrev pub HasLists : {K : Type 0} → (Definitions → List Kept → List ℕ → ℕ → K → Type 0) → Definitions → Slot K → Type 0
HasLists fits d slot = (kept : List Kept) × (marks : List ℕ) × SlotFits fits d kept marks slot

-- a slot stands for some lists, and a time isn't late under its watermark
pub record Accepts {K : Type 0} (fits : Definitions → List Kept → List ℕ → ℕ → K → Type 0) (d : Definitions) (slot : Slot K) (time : ℕ) : Type 0 where
  pub stands : HasLists fits d slot
  pub within : time ≤ TIME_MAX
  pub is_water : IsWater slot.water
  pub accepted : slot.water ≤ time + d.lateness

-- a slot stands for some lists, under no later watermark than this one
pub record MayMove {K : Type 0} (fits : Definitions → List Kept → List ℕ → ℕ → K → Type 0) (d : Definitions) (slot : Slot K) (water : ℕ) : Type 0 where
  pub stands : HasLists fits d slot
  pub rises : slot.water ≤ water
  pub is_water : IsWater water

-- there is a slot at a place, and it stands for some lists, under no later watermark than this one
pub record MayMoveAt {K : Type 0} (fits : Definitions → List Kept → List ℕ → ℕ → K → Type 0) (d : Definitions) (slots : List (Slot K)) (place water : ℕ) : Type 0 where
  pub within : place < length slots
  pub stands : HoldsAt (HasLists fits d) slots place
  pub rises : HoldsAt (λ slot. slot.water ≤ water) slots place
  pub is_water : IsWater water

-- room was made for the move of a slot to a watermark
abbrev pub CanMove : {K : Type 0} → (Call → K → Type 0) → ℕ → Slot K → Type 0
CanMove is_ready water slot = is_ready (Move slot.water water) slot.state

-- the place of a key in the table
abbrev pub place_of_key : {K : Type 0} → KeyTable K → List ℕ → Option ℕ
place_of_key t key = place_in t.index key

module _ {K : Type 0} (key_of : K → List ℕ) (fits : Definitions → List Kept → List ℕ → ℕ → K → Type 0) (next_position : K → ℕ) (d : Definitions) (sources : ℕ) (journal : List Entry) where
  -- a slot has the state of a key after a journal, under a watermark of its own: the journal's, or an earlier one up from which nothing was due yet
  pub record IsCurrent (key : List ℕ) (slot : Slot K) (due : ℕ) : Type 0 where
    pub of_key : key_of slot.state ≡ key
    pub stands : fits d (kept_of d.lateness sources key journal) (marks_of d.lateness sources key journal) slot.water slot.state
    pub position : next_position slot.state ≤ length journal
    pub is_water : IsWater slot.water
    pub past : slot.water ≤ water_of sources journal
    pub not_due : (slot.water ≡ water_of sources journal) ⊎ (water_of sources journal < due)
    pub number : IsDueNumber fits d key (kept_of d.lateness sources key journal) (marks_of d.lateness sources key journal) slot.water slot.state due

  -- each key with a place is current there, and nothing is kept of any other
  pub record AreCurrent (t : KeyTable K) : Type 0 where
    pub in_order : AreByKey t.index
    pub aligned : length t.dues.items ≡ length t.slots.items
    pub counted : length t.slots.items ≡ length t.index
    pub placed : (key : List ℕ) (p : ℕ) → place_of_key t key ≡ Some p → p < length t.slots.items
    pub current : (key : List ℕ) (p : ℕ) (slot : Slot K) → place_of_key t key ≡ Some p → IsCurrent key (slice_index_or t.slots.items p slot) (slice_index t.dues.items p)
    pub nothing_kept : (key : List ℕ) → place_of_key t key ≡ None → kept_of d.lateness sources key journal ≡ []
    pub no_marks : (key : List ℕ) → place_of_key t key ≡ None → marks_of d.lateness sources key journal ≡ []

-- the table of keys is that of a past
abbrev pub IsTableOf : {K : Type 0} → (K → List ℕ) → (Definitions → List Kept → List ℕ → ℕ → K → Type 0) → (K → ℕ) → Recorded → KeyTable K → Type 0
IsTableOf key_of fits next_position past t = AreCurrent key_of fits next_position past.defs past.sources past.journal t

-- a table that is that of a past stays so
abbrev pub StaysTableOf : {K : Type 0} → (K → List ℕ) → (Definitions → List Kept → List ℕ → ℕ → K → Type 0) → (K → ℕ) → Recorded → KeyTable K → KeyTable K → Type 0
StaysTableOf key_of fits next_position past old new = IsTableOf key_of fits next_position past old → IsTableOf key_of fits next_position past new

-- with one entry more it is that of the past and the entry
abbrev pub IsTableWith : {K : Type 0} → (K → List ℕ) → (Definitions → List Kept → List ℕ → ℕ → K → Type 0) → (K → ℕ) → Recorded → Entry → KeyTable K → Type 0
IsTableWith key_of fits next_position past e t = AreCurrent key_of fits next_position past.defs past.sources (past.journal ++ e ∷ []) t

-- a tuple or mark of this time may be taken in: the table is that of the past, and the time isn't late there
pub record MayTake {K : Type 0} (key_of : K → List ℕ) (fits : Definitions → List Kept → List ℕ → ℕ → K → Type 0) (next_position : K → ℕ) (past : Recorded) (t : KeyTable K) (time : ℕ) : Type 0 where
  pub current : IsTableOf key_of fits next_position past t
  pub within : time ≤ TIME_MAX
  pub accepted : water_of past.sources past.journal ≤ time + past.defs.lateness

-- an entry may come: the table is that of the past, and the entry is within its limits and of a source there
pub record MayCome {K : Type 0} (key_of : K → List ℕ) (fits : Definitions → List Kept → List ℕ → ℕ → K → Type 0) (next_position : K → ℕ) (past : Recorded) (t : KeyTable K) (e : Entry) : Type 0 where
  pub current : IsTableOf key_of fits next_position past t
  pub known : IsKnown past.sources e

-- an entry was taken in, and its changes were appended; or it was refused, and the table is that of the past still, no change was told and no step taken
pub record TakesIn {K T E : Type 0} (key_of : K → List ℕ) (fits : Definitions → List Kept → List ℕ → ℕ → K → Type 0) (next_position : K → ℕ) (past : Recorded) (e : Entry) (answer : Result T E) (t : KeyTable K) (told told_then : Told) (steps later : ℕ) : Type 0 where
  pub taken : OnOk answer (IsTableWith key_of fits next_position past e t)
  pub changes : OnOk answer (told_then.log.items ≡ told.log.items ++ changes_after past.defs past.sources past.journal e)
  pub refused : OnErr answer (IsTableOf key_of fits next_position past t)
  pub nothing : OnErr answer (told_then.log.items ≡ told.log.items)
  pub no_step : OnErr answer (later ≡ steps)

-- any entry of these words was so taken in, or refused
abbrev pub TakesInAs : {K T E : Type 0} → (K → List ℕ) → (Definitions → List Kept → List ℕ → ℕ → K → Type 0) → (K → ℕ) → Recorded → What → Result T E → KeyTable K → Told → Told → ℕ → ℕ → Type 0
TakesInAs key_of fits next_position past what answer t told told_then steps later = (e : Entry) → e.what ≡ what → TakesIn key_of fits next_position past e answer t told told_then steps later

-- the places of the keys and the due numbers are as before
pub record HasSameDues {K : Type 0} (old new : KeyTable K) : Type 0 where
  pub index : new.index ≡ old.index
  pub dues : new.dues ≡ old.dues

-- the places of the keys are as before, and there are as many states and due numbers
pub record HasSamePlaces {K : Type 0} (old new : KeyTable K) : Type 0 where
  pub index : new.index ≡ old.index
  pub as_many : length new.slots.items ≡ length old.slots.items
  pub as_many_dues : length new.dues.items ≡ length old.dues.items

-- the places of the states that are due at a watermark, by the bytes of their keys
abbrev pub due_places : {K : Type 0} → KeyTable K → ℕ → List ℕ
due_places t water = places_reached t.dues.items water t.index

-- no place stands twice
abbrev pub AreApart : List ℕ → Type 0
AreApart places = (i j : ℕ) → i < j → j < length places → slice_index places i ≢ slice_index places j

-- the elements at all other places are as before
abbrev pub IsSameElsewhere : {X : Type 0} → List X → List X → ℕ → Type 0
IsSameElsewhere old new place = (p : ℕ) (x : _) → p ≢ place → slice_index_or new p x ≡ slice_index_or old p x

-- the elements at places that are none of these are as before
abbrev pub IsSameOutside : {X : Type 0} → List X → List X → List ℕ → Type 0
IsSameOutside old new places = (p : ℕ) (x : _) → ((j : ℕ) → j < length places → slice_index places j ≢ p) → slice_index_or new p x ≡ slice_index_or old p x

module _ {K : Type 0} (key_of : K → List ℕ) (fits : Definitions → List Kept → List ℕ → ℕ → K → Type 0) (next_position : K → ℕ) (d : Definitions) where
  -- each slot stands for the same as before
  pub record AreSameSlots (old new : List (Slot K)) : Type 0 where
    pub as_many : length new ≡ length old
    pub each_same : (p : ℕ) (x : Slot K) → IsSameSlot key_of fits next_position d (slice_index_or old p x) (slice_index_or new p x)

  -- a state was moved to a watermark, and its due number is told anew
  pub record IsMovedSlot (water : ℕ) (old new : Slot K) (due : ℕ) : Type 0 where
    pub same_key : key_of new.state ≡ key_of old.state
    pub same_next : next_position new.state ≡ next_position old.state
    pub moved : new.water ≡ water
    pub still_fits : (kept : List Kept) (marks : List ℕ) → fits d kept marks old.water old.state → fits d kept marks new.water new.state
    pub number : (kept : List Kept) (marks : List ℕ) → fits d kept marks new.water new.state → IsDueNumber fits d (key_of new.state) kept marks new.water new.state due

-- a slot stands for what is kept of its key
abbrev pub StandsIn : {K : Type 0} → (K → List ℕ) → (Definitions → List Kept → List ℕ → ℕ → K → Type 0) → Definitions → (List ℕ → List Kept) → (List ℕ → List ℕ) → Slot K → Type 0
StandsIn key_of fits d kept marks slot = fits d (kept (key_of slot.state)) (marks (key_of slot.state)) slot.water slot.state

-- what the move of a slot to a watermark changes
abbrev pub moves_of : {K : Type 0} → (K → List ℕ) → Definitions → (List ℕ → List Kept) → (List ℕ → List ℕ) → ℕ → Slot K → List Change
moves_of key_of d kept marks new slot = changes_by_move d (key_of slot.state) (kept (key_of slot.state)) (marks (key_of slot.state)) slot.water new

-- a number bounds what the move of a slot to a watermark takes
abbrev pub BoundsMove : {K : Type 0} → (Definitions → List ℕ → Moment → Moment → ℕ → Type 0) → (K → List ℕ) → Definitions → (List ℕ → List Kept) → (List ℕ → List ℕ) → ℕ → Slot K → ℕ → Type 0
BoundsMove bounds key_of d kept marks new slot most =
    bounds d (key_of slot.state) (moment (kept (key_of slot.state)) (marks (key_of slot.state)) slot.water) (moment (kept (key_of slot.state)) (marks (key_of slot.state)) new) most

-- the moves of the slots at the first so many places took no more than the sum of such numbers
pub record AreMovedWithin {K : Type 0} (bounds : Definitions → List ℕ → Moment → Moment → ℕ → Type 0) (key_of : K → List ℕ) (d : Definitions) (kept : List ℕ → List Kept) (marks : List ℕ → List ℕ) (new : ℕ) (slots : List (Slot K)) (x : Slot K) (places : List ℕ) (count steps later : ℕ) : Type 0 where
  pub most : List ℕ
  pub as_many : length most ≡ count
  pub are_bounds : (i : ℕ) → i < count → BoundsMove bounds key_of d kept marks new (slice_index_or slots (slice_index places i) x) (slice_index most i)
  pub within : later ≤ steps + sum_by (λ n. n) most

-- each of these places is that of a key
abbrev pub ArePlaces : {K : Type 0} → KeyTable K → List ℕ → Type 0
ArePlaces t places = EachIndex places (λ i. (key : List ℕ) × (place_of_key t key ≡ Some (slice_index places i)))

-- the slots at the first so many places stand under a watermark
abbrev pub StandAt : {K : Type 0} → ℕ → List (Slot K) → List ℕ → ℕ → Type 0
StandAt water slots places count = (i : ℕ) → i < count → HoldsAt (λ slot. slot.water ≡ water) slots (slice_index places i)

-- these are places of the slots, each once, and each slot there stands for some lists, under no later watermark than this one
pub record AreMovable {K : Type 0} (fits : Definitions → List Kept → List ℕ → ℕ → K → Type 0) (d : Definitions) (slots : List (Slot K)) (places : List ℕ) (water : ℕ) : Type 0 where
  pub within : EachIndex places (λ i. slice_index places i < length slots)
  pub apart : AreApart places
  pub rises : EachIndex places (λ i. HoldsAt (λ slot. slot.water ≤ water) slots (slice_index places i))
  pub stand : EachIndex places (λ i. HoldsAt (HasLists fits d) slots (slice_index places i))
  pub is_water : IsWater water
