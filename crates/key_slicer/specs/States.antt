-- For which lists the state of a key stands, and for which call it has room.
use Rattle.std.specs.Prelude.{◌≡◌, ◌≤◌, ◌⊎◌, ◌&&◌, ℕ, Bool, false, List, [], All, length, nat_le}
use Rattle.std.specs.List.{Contains, list_all}
use Rattle.stream_base.specs.Kinds.{is_timed}
use Rattle.stream_base.specs.Limits.{Definitions}
use Rattle.stream_base.specs.declared.change.Change.{Change}
use Rattle.stream_base.specs.declared.kept.Kept.{Kept}
use Rattle.stream_base.specs.declared.limits.TheConstants.{TIME_MAX}
use Rattle.stream_base.specs.Model.Changes.{Moment}
use Rattle.stream_base.specs.Model.Moments.{IsWater, moment}
use Rattle.stream_base.specs.Model.Windows.{first_time}
use Rattle.partials.specs.Apart.{IsReachOver}
use Rattle.agg_store.specs.Stored.{IsSliced, IsStore, Stored, tuples_of}
use Rattle.key_windows.specs.Calls.{Call}
use Rattle.key_windows.specs.Calls.Call.{Put, Mark, Move}
use Rattle.key_parts.specs.Calls.{Standing}
use Rattle.key_parts.specs.Held.{IsHeld}
use Rattle.key_parts.specs.Moves.{AreLists, all_count_events}
use Rattle.held_laws.specs.Settling.{NoneSettled}
use Rattle.key_slicer.specs.Parts.{AreStanding, EachPart, rooms}

module _ {P : Type 0} (stands : Standing P) (d : Definitions) where
  -- a key's store holds what is known of it without so many first tuples, and its parts stand for that. Where each window counts events the store has no slices
  pub record StandsFor (m : Moment) (next : ℕ) (s : Stored) (parts : List P) : Type 0 where
    pub without : ℕ
    pub lists : AreLists m next
    pub store : IsStore s
    pub held : IsHeld d m without s
    pub stood : AreStanding stands d m without s parts
    pub bare : all_count_events d → s.slices ≡ []

  -- a key that has no tuple and no mark yet, under whatever watermark
  pub record IsBlank (kept : List Kept) (marks : List ℕ) (next : ℕ) (s : Stored) (parts : List P) : Type 0 where
    pub no_tuple : kept ≡ []
    pub no_mark : marks ≡ []
    pub anywhere : (water : ℕ) → StandsFor (moment [] [] water) next s parts

  -- a key's state stands for these tuples and marks under a watermark, or it is a blank one; and settled tuples have left its store
  pub record Fits (kept : List Kept) (marks : List ℕ) (water next : ℕ) (s : Stored) (parts : List P) : Type 0 where
    pub known : StandsFor (moment kept marks water) next s parts
    pub none_settled : NoneSettled d (moment kept marks water) s
    pub clock : IsWater water ⊎ IsBlank kept marks next s parts

  -- a key's state stands for some tuples and marks under a watermark
  pub record FitsSome (water next : ℕ) (s : Stored) (parts : List P) : Type 0 where
    pub is_water : IsWater water
    pub key : (kept : List Kept) × (marks : List ℕ) × Fits kept marks water next s parts

  -- a key's store and its parts stand for some tuples and marks under a watermark, under which tuples in the store may be settled
  pub record MayPurge (water next : ℕ) (s : Stored) (parts : List P) : Type 0 where
    pub is_water : IsWater water
    pub key : (kept : List Kept) × (marks : List ℕ) × StandsFor (moment kept marks water) next s parts

-- a time is that of the first tuple in a store
pub record IsFirstTime (s : Stored) (time : ℕ) : Type 0 where
  pub least : All (λ run. time ≤ first_time run) s.slices
  pub is_one : (x : Kept) × Contains (tuples_of s) x × (x.time ≡ time)
  pub early : time ≤ TIME_MAX

-- a tuple at a time within the limits may enter a store, which has room and is sliced by the windows; where each of them counts events it has no slices
pub record MayEnter (d : Definitions) (time : ℕ) (s : Stored) : Type 0 where
  pub room : 1 ≤ s.spare
  pub within : time ≤ TIME_MAX
  pub sliced : IsSliced d.windows s
  pub bare : all_count_events d → s.slices ≡ []

-- each part is ready and the store has room for what comes, its reach bounded by its slices; and so much room is promised as all parts need, for changes that are put together first
pub record IsReadyToTake {P : Type 0} (bounded : ℕ → ℕ → Type 0) (is_ready : ℕ → P → Type 0) (room : ℕ → P → ℕ) (water : ℕ) (s : Stored) (parts : List P) (promise : ℕ) (scratch : List Change) (spare : ℕ) : Type 0 where
  pub water_is : IsWater water
  pub each : EachPart is_ready parts
  pub store : 1 ≤ s.spare
  pub reach : IsReachOver bounded (length s.slices) s.reach
  pub promised : promise ≡ rooms room parts
  pub empty : scratch ≡ []
  pub fits_in : promise ≤ spare

-- no part need be told of a tuple at a time: each window is tumbling or sliding, and the time is not before the watermark
abbrev pub needs_no_part : Definitions → ℕ → ℕ → Bool
needs_no_part d time water = nat_le water time && list_all (λ w. is_timed w.kind) d.windows

-- the store has room for a tuple to come, its reach bounded by its slices; and where a part need be told of it, all are ready
pub record IsReadyToPut {P : Type 0} (bounded : ℕ → ℕ → Type 0) (is_ready : ℕ → P → Type 0) (room : ℕ → P → ℕ) (untold : Bool) (water : ℕ) (s : Stored) (parts : List P) (promise : ℕ) (scratch : List Change) (spare : ℕ) : Type 0 where
  pub water_is : IsWater water
  pub store : 1 ≤ s.spare
  pub reach : IsReachOver bounded (length s.slices) s.reach
  pub told : untold ≡ false → IsReadyToTake bounded is_ready room water s parts promise scratch spare

-- each part can move, and so much room is promised as all need
pub record CanMoveAll {P : Type 0} (can_move : ℕ → P → Type 0) (room : ℕ → P → ℕ) (parts : List P) (promise : ℕ) : Type 0 where
  pub each : EachPart can_move parts
  pub promised : promise ≡ rooms room parts

-- room was made for the call to come
abbrev pub IsReady : {P : Type 0} → (ℕ → ℕ → Type 0) → (Definitions → ℕ → ℕ → ℕ → P → Type 0) → (Definitions → ℕ → ℕ → ℕ → P → ℕ) → (Definitions → ℕ → ℕ → ℕ → P → ℕ)
    → (Definitions → ℕ → Stored → ℕ → ℕ → P → Type 0) → (Definitions → ℕ → Stored → ℕ → ℕ → P → ℕ)
    → Definitions → Call → Stored → List P → ℕ → List Change → ℕ → Type 0
IsReady bounded is_ready put_room mark_room can_move move_room d (Put time water) s parts promise scratch spare =
    IsReadyToPut bounded (λ i part. is_ready d i time water part) (λ i part. put_room d i time water part) (needs_no_part d time water) water s parts promise scratch spare
IsReady bounded is_ready put_room mark_room can_move move_room d (Mark time water) s parts promise scratch spare =
    IsReadyToTake bounded (λ i part. is_ready d i time water part) (λ i part. mark_room d i time water part) water s parts promise scratch spare
IsReady bounded is_ready put_room mark_room can_move move_room d (Move old new) s parts promise scratch spare =
    IsWater old → CanMoveAll (λ i part. can_move d i s old new part) (λ i part. move_room d i s old new part) parts promise
