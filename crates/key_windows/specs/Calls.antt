-- The calls that make room for one to come, what the coming call is to change, and what the calls of each kind ask and promise alike.
use Rattle.std.specs.Prelude.{◌≡◌, ◌≢◌, ◌≤◌, ◌+◌, ◌++◌, ◌⊎◌, ℕ, List, [], Result, IfOk, Vec, vec_capacity}
use Rattle.std.specs.BTreeSet.{insert_key}
use Rattle.std.specs.Ordering.{nat_cmp}
use Rattle.stream_base.specs.Limits.{Definitions}
use Rattle.stream_base.specs.declared.change.Change.{Change}
use Rattle.stream_base.specs.declared.kept.Kept.{Kept}
use Rattle.stream_base.specs.declared.limits.TheConstants.{TIME_MAX}
use Rattle.stream_base.specs.Model.Changes.{Moment, changes_between}
use Rattle.stream_base.specs.Model.Journal.{put_in_order}
use Rattle.stream_base.specs.Model.Moments.{IsWater, moment}
use Rattle.stream_base.specs.Model.Slices.{runs_of, unsettled}
use Rattle.stream_base.specs.Vectors.{room}

-- a call to come: a tuple or a mark at a time, under a watermark, or a move of the watermark
pub data Call : Type 0 where
  Put : (time water : ℕ) → Call
  Mark : (time water : ℕ) → Call
  Move : (old new : ℕ) → Call

-- the changes of a key by one tuple more
abbrev pub changes_by_put : Definitions → List ℕ → List Kept → List ℕ → ℕ → Kept → List Change
changes_by_put d key kept marks water x =
    changes_between d.windows key (moment kept marks water) (moment (put_in_order kept x) marks water)

-- by one mark more
abbrev pub changes_by_mark : Definitions → List ℕ → List Kept → List ℕ → ℕ → ℕ → List Change
changes_by_mark d key kept marks water time =
    changes_between d.windows key (moment kept marks water) (moment kept (insert_key nat_cmp marks time) water)

-- and by a move of the watermark
abbrev pub changes_by_move : Definitions → List ℕ → List Kept → List ℕ → ℕ → ℕ → List Change
changes_by_move d key kept marks old new =
    changes_between d.windows key (moment kept marks old) (moment kept marks new)

-- the slices of what isn't settled at a moment
abbrev pub slices_at : Definitions → Moment → List (List Kept)
slices_at d m = runs_of d.windows m.marks (unsettled d m)

-- at a later watermark something is complete or settled of a key that isn't at an earlier one
abbrev pub BringsMore : Definitions → List ℕ → List Kept → List ℕ → ℕ → ℕ → Type 0
BringsMore d key kept marks old new =
    (changes_by_move d key kept marks old new ≢ []) ⊎ (unsettled d (moment kept marks new) ≢ unsettled d (moment kept marks old))

-- for which tuples and marks a state stands, under which watermark
abbrev pub Fitting : Type 0 → Type 1
Fitting K = Definitions → List Kept → List ℕ → ℕ → K → Type 0

-- the watermark under which a call comes
abbrev pub water_at : Call → ℕ
water_at (Put time water) = water
water_at (Mark time water) = water
water_at (Move old new) = old

-- a tuple or a mark is within the limits, and comes under a watermark
pub record IsEntryAt (time water : ℕ) : Type 0 where
  pub within : time ≤ TIME_MAX
  pub is_water : IsWater water

-- a tuple or a mark is within the limits, and isn't late
pub record IsAccepted (d : Definitions) (time water : ℕ) : Type 0 where
  pub within : time ≤ TIME_MAX
  pub accepted : water ≤ time + d.lateness

-- a move leads on to a watermark
pub record LeadsOn (old new : ℕ) : Type 0 where
  pub rises : old ≤ new
  pub is_water : IsWater new

-- what is known of a call where room is made for it
abbrev pub IsToCome : Call → Type 0
IsToCome (Put time water) = IsEntryAt time water
IsToCome (Mark time water) = IsEntryAt time water
IsToCome (Move old new) = LeadsOn old new

-- what is known of it where it comes
abbrev pub ComesInTime : Definitions → Call → Type 0
ComesInTime d (Put time water) = IsAccepted d time water
ComesInTime d (Mark time water) = IsAccepted d time water
ComesInTime d (Move old new) = LeadsOn old new

module _ {K : Type 0} (suits : Fitting K) (d : Definitions) where
  -- there are lists for which a state stands under this number
  abbrev pub HasLists : ℕ → K → Type 0
  HasLists water state = (kept : List Kept) × (marks : List ℕ) × suits d kept marks water state

  -- a state stands for some lists under a watermark
  pub record StandsUnder (water : ℕ) (state : K) : Type 0 where
    pub stands : HasLists water state
    pub is_water : IsWater water

  -- room may be made for a call to a state that stands for some lists where it comes
  pub record MayReserve (call : Call) (state : K) : Type 0 where
    pub stands : HasLists (water_at call) state
    pub to_come : IsToCome call

  -- a call may come, in time: the state stands for some lists, and room was made for it, and for as many changes as were promised
  pub record MayTakeIn {X Y : Type 0} (is_ready : Definitions → Call → K → Type 0) (promise_of : K → ℕ) (call : Call) (state : K) (out : Vec X Y) : Type 0 where
    pub stands : HasLists (water_at call) state
    pub in_time : ComesInTime d call
    pub ready : is_ready d call state
    pub spare : promise_of state ≤ room out

  -- room is made for a call to come and as many changes promised as are answered, or memory lacks; and the state is of the same key and still stands for all that it stood for, on no more credit, ahead of each watermark that it was ahead of
  pub record MakesRoom {E : Type 0} (key_of : K → List ℕ) (next_position : K → ℕ) (is_ready : Definitions → Call → K → Type 0) (promise_of : K → ℕ) (credit_of : K → ℕ) (is_ahead : Definitions → ℕ → K → Type 0) (call : Call) (old new : K) (answer : Result ℕ E) : Type 0 where
    pub key : key_of new ≡ key_of old
    pub next : next_position new ≡ next_position old
    pub stays : (kept : List Kept) (marks : List ℕ) (w : ℕ) → suits d kept marks w old → suits d kept marks w new
    pub ready : IfOk answer (λ n. is_ready d call new)
    pub promised : IfOk answer (λ n. promise_of new ≡ n)
    pub credit : credit_of new ≤ credit_of old
    pub ahead : (w : ℕ) → is_ahead d w old → is_ahead d w new

  -- a call is taken in that comes under a watermark, after which so much is known of the key: its changes are appended with no memory taken, the state is of the same key and stands for what is known then, and the next tuple has at least this position
  pub record TakesIn {Y : Type 0} (key_of : K → List ℕ) (next_position : K → ℕ) (water : ℕ) (after : List Kept → List ℕ → Moment) (position : ℕ) (old new : K) (out longer : Vec Change Y) : Type 0 where
    pub key : key_of new ≡ key_of old
    pub next : next_position new ≡ position
    pub changes : (kept : List Kept) (marks : List ℕ) → suits d kept marks water old → longer.items ≡ out.items ++ changes_between d.windows (key_of old) (moment kept marks water) (after kept marks)
    pub capacity : vec_capacity longer ≡ vec_capacity out
    pub fits : (kept : List Kept) (marks : List ℕ) → suits d kept marks water old → suits d (after kept marks).kept (after kept marks).marks (after kept marks).water new

-- a tuple or a mark is taken in on no credit, and a state that was ahead of the watermark is so still where its time isn't before it
pub record StaysAhead {K : Type 0} (credit_of : K → ℕ) (is_ahead : Definitions → ℕ → K → Type 0) (d : Definitions) (time water : ℕ) (old new : K) : Type 0 where
  pub credit : credit_of new ≤ credit_of old
  pub ahead : water ≤ time → is_ahead d water old → is_ahead d water new
