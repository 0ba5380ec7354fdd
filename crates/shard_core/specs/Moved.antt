-- What is promised of the slots at places of the table where their moves are made.
use Rattle.std.specs.Prelude.{◌≤◌, ◌+◌, ℕ, List, EachIndex, length, slice_index, slice_index_or, sum_by}
use Rattle.std.specs.List.{HoldsAt, flat_map}
use Rattle.key_windows.specs.Calls.{Call, Fitting}
use Rattle.stream_base.specs.Limits.{Definitions}
use Rattle.stream_base.specs.declared.kept.Kept.{Kept}
use Rattle.stream_base.specs.Model.Changes.{Moment}
use Rattle.shard_core.specs.Engines.{AreMovedWithin, BoundsMove, CanMove, IsMovedSlot, IsSameSlot, StandsIn, moves_of}
use Rattle.shard_core.specs.Slots.{AddsChanges, TellsMove}
use Rattle.shard_core.specs.declared.keys.KeyTable.{KeyTable}
use Rattle.shard_core.specs.declared.slot.Slot.{Slot}
use Rattle.shard_core.specs.declared.told.Told.{Told}

-- room was made for the moves of the slots at these places to a watermark
abbrev pub AreReadyToMove : {K : Type 0} → (Call → K → Type 0) → ℕ → KeyTable K → List ℕ → Type 0
AreReadyToMove is_ready water t places = EachIndex places (λ i. HoldsAt (CanMove is_ready water) t.slots.items (slice_index places i))

-- how many changes are promised of the slots at these places
abbrev pub promised_at : {K : Type 0} → (K → ℕ) → KeyTable K → Slot K → List ℕ → ℕ
promised_at promise_of t x places = sum_by (λ p. promise_of (slice_index_or t.slots.items p x).state) places

module _ {K : Type 0} (key_of : K → List ℕ) (fits : Fitting K) (next_position : K → ℕ) (d : Definitions) where
  -- the slot at a place stands for the same as before
  abbrev pub IsSameAt : KeyTable K → KeyTable K → ℕ → Type 0
  IsSameAt old new place = (x : Slot K) → IsSameSlot key_of fits next_position d (slice_index_or old.slots.items place x) (slice_index_or new.slots.items place x)

  -- the slot at a place was moved to a watermark, and its due number is told anew
  abbrev pub IsMovedAt : ℕ → KeyTable K → KeyTable K → ℕ → Type 0
  IsMovedAt water old new place =
      (x : Slot K) → IsMovedSlot key_of fits next_position d water (slice_index_or old.slots.items place x) (slice_index_or new.slots.items place x) (slice_index new.dues.items place)

  -- so was each slot at these places
  abbrev pub AreMovedAt : ℕ → KeyTable K → KeyTable K → List ℕ → Type 0
  AreMovedAt water old new places =
      (x : Slot K)
      → EachIndex places (λ i. IsMovedSlot key_of fits next_position d water (slice_index_or old.slots.items (slice_index places i) x) (slice_index_or new.slots.items (slice_index places i) x) (slice_index new.dues.items (slice_index places i)))

module _ {K : Type 0} (key_of : K → List ℕ) (fits : Fitting K) (d : Definitions) where
  -- the slots at these places stand for what is kept of their keys
  abbrev pub EachStandsIn : (List ℕ → List Kept) → (List ℕ → List ℕ) → KeyTable K → Slot K → List ℕ → Type 0
  EachStandsIn kept marks t x places = EachIndex places (λ i. StandsIn key_of fits d kept marks (slice_index_or t.slots.items (slice_index places i) x))

  -- the move of the slot at a place to a watermark tells its changes
  abbrev pub TellsMoveAt : ℕ → KeyTable K → ℕ → Told → Told → Type 0
  TellsMoveAt water t place told later = (x : Slot K) → TellsMove fits d key_of water (slice_index_or t.slots.items place x) told later

  -- the moves of the slots at these places tell their changes, one behind the other
  abbrev pub TellMovesAt : ℕ → KeyTable K → List ℕ → Told → Told → Type 0
  TellMovesAt water t places told later =
      (x : Slot K) (kept : List ℕ → List Kept) (marks : List ℕ → List ℕ) → EachStandsIn kept marks t x places
      → AddsChanges (flat_map (λ p. moves_of key_of d kept marks water (slice_index_or t.slots.items p x)) places) told later

  -- the move of the slot at a place takes no more steps than some number that bounds it
  abbrev pub MoveAtStaysWithin : (Definitions → List ℕ → Moment → Moment → ℕ → Type 0) → ℕ → KeyTable K → ℕ → ℕ → ℕ → Type 0
  MoveAtStaysWithin bounds water t place steps later =
      (x : Slot K) (kept : List ℕ → List Kept) (marks : List ℕ → List ℕ) → StandsIn key_of fits d kept marks (slice_index_or t.slots.items place x)
      → (bound : ℕ) × BoundsMove bounds key_of d kept marks water (slice_index_or t.slots.items place x) bound × (later ≤ steps + bound)

  -- the moves of the slots at these places take no more than the sum of such numbers
  abbrev pub MovesStayWithin : (Definitions → List ℕ → Moment → Moment → ℕ → Type 0) → ℕ → KeyTable K → List ℕ → ℕ → ℕ → Type 0
  MovesStayWithin bounds water t places steps later =
      (x : Slot K) (kept : List ℕ → List Kept) (marks : List ℕ → List ℕ) → EachStandsIn kept marks t x places
      → AreMovedWithin bounds key_of d kept marks water t.slots.items x places (length places) steps later
