-- For which lists the whole state of a key stands, and when its tuples are settled.
use Rattle.std.specs.Prelude.{◌≡◌, ◌≢◌, ◌≤◌, ◌<◌, ℕ, List, true}
use Rattle.std.specs.List.{Contains}
use Rattle.stream_base.specs.Limits.{Definitions}
use Rattle.stream_base.specs.Model.Moments.{IsWater, moment}
use Rattle.stream_base.specs.declared.kept.Kept.{Kept}
use Rattle.stream_base.specs.declared.limits.TheConstants.{FINAL}
use Rattle.stream_base.specs.Model.Slices.{is_settled, unsettled}
use Rattle.agg_store.specs.Stored.{tuples_of}
use Rattle.key_parts.specs.Calls.{Standing}
use Rattle.key_parts.specs.Promises.{BeingAhead}
use Rattle.held_laws.specs.Settling.{NoneSettled}
use Rattle.key_slicer.specs.declared.key_state.KeyState.{KeyState}
use Rattle.key_slicer.specs.Parts.{AllAhead}
use Rattle.key_slicer.specs.States.{Fits, FitsSome, MayPurge, StandsFor}

module _ {M T P : Type 0} (stands : Standing P) (d : Definitions) where
  -- the state of a key stands for these tuples and marks under a watermark, or it is a blank one; and settled tuples have left its store
  abbrev pub FitsKey : List Kept → List ℕ → ℕ → KeyState M T P → Type 0
  FitsKey kept marks water k = Fits stands d kept marks water k.next k.store k.parts.list.items

  -- the state of a key stands for some tuples and marks under a watermark
  abbrev pub FitsSomeKey : ℕ → KeyState M T P → Type 0
  FitsSomeKey water k = FitsSome stands d water k.next k.store k.parts.list.items

  -- a key's store and its parts stand for these tuples and marks under a watermark, whether or not settled ones have left
  abbrev pub StandsForKey : List Kept → List ℕ → ℕ → KeyState M T P → Type 0
  StandsForKey kept marks water k = StandsFor stands d (moment kept marks water) k.next k.store k.parts.list.items

  -- they stand so for some tuples and marks
  abbrev pub MayPurgeKey : ℕ → KeyState M T P → Type 0
  MayPurgeKey water k = MayPurge stands d water k.next k.store k.parts.list.items

  -- settled tuples have left, and the state stands for all that its store and its parts stood for
  abbrev pub FitsPurged : ℕ → KeyState M T P → KeyState M T P → Type 0
  FitsPurged water old new = (kept : List Kept) (marks : List ℕ) → StandsForKey kept marks water old → FitsKey kept marks water new

  -- below a watermark none of the tuples in the store is settled
  abbrev pub NoneSettledBefore : ℕ → KeyState M T P → ℕ → Type 0
  NoneSettledBefore water k due =
      (kept : List Kept) (marks : List ℕ) (new : ℕ) → FitsKey kept marks water k → water ≤ new → new < due → IsWater new → NoneSettled d (moment kept marks new) k.store

  -- at a watermark, if it is one, others are unsettled than were
  abbrev pub SomeSettledAt : ℕ → KeyState M T P → ℕ → Type 0
  SomeSettledAt water k due =
      (kept : List Kept) (marks : List ℕ) → FitsKey kept marks water k → due ≤ FINAL
      → (water < due) × (unsettled d (moment kept marks due) ≢ unsettled d (moment kept marks water))

  -- and so from each watermark before it to each one from it on
  abbrev pub SomeSettledAcross : ℕ → KeyState M T P → ℕ → Type 0
  SomeSettledAcross water k due =
      (kept : List Kept) (marks : List ℕ) (old new : ℕ) → FitsKey kept marks water k → IsWater old → IsWater new → water ≤ old → old < due → due ≤ new
      → unsettled d (moment kept marks new) ≢ unsettled d (moment kept marks old)

  -- at a watermark, if it is one, the tuples in the store up to a time are settled
  abbrev pub AreSettledAt : ℕ → ℕ → KeyState M T P → ℕ → Type 0
  AreSettledAt water time k due =
      (kept : List Kept) (marks : List ℕ) (x : Kept) → FitsKey kept marks water k → Contains (tuples_of k.store) x → x.time ≤ time → due ≤ FINAL
      → (water < due) × (is_settled d (moment kept marks due) x ≡ true)

-- no part of a key has missed anything at a watermark
abbrev pub KeyAhead : {M T P : Type 0} → BeingAhead P → Definitions → ℕ → KeyState M T P → Type 0
KeyAhead is_ahead d water k = AllAhead is_ahead d water k.store k.parts.list.items
