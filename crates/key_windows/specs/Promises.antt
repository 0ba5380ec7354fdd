-- What the calls of an engine promise, of all lists for which its state stands.
use Rattle.std.specs.Prelude.{◌≡◌, ◌≤◌, ◌<◌, ◌+◌, ℕ, List, [], Vec, length}
use Rattle.std.specs.BTreeSet.{insert_key}
use Rattle.std.specs.Ordering.{nat_cmp}
use Rattle.stream_base.specs.Limits.{Definitions}
use Rattle.stream_base.specs.declared.change.Change.{Change}
use Rattle.stream_base.specs.declared.kept.Kept.{Kept}
use Rattle.stream_base.specs.declared.limits.TheConstants.{FINAL}
use Rattle.stream_base.specs.Model.Changes.{Moment}
use Rattle.stream_base.specs.Model.Journal.{put_in_order}
use Rattle.stream_base.specs.Model.Moments.{IsWater, moment}
use Rattle.key_windows.specs.Calls.{BringsMore, Fitting, TakesIn, changes_by_move, slices_at}
use Rattle.key_windows.specs.Dues.{IsExact}

-- a key's lists under a watermark with a tuple more
abbrev pub after_put : ℕ → Kept → List Kept → List ℕ → Moment
after_put water x kept marks = moment (put_in_order kept x) marks water

-- with a mark more
abbrev pub after_mark : ℕ → ℕ → List Kept → List ℕ → Moment
after_mark water time kept marks = moment kept (insert_key nat_cmp marks time) water

-- and under a later watermark
abbrev pub after_move : ℕ → List Kept → List ℕ → Moment
after_move new kept marks = moment kept marks new

module _ {K : Type 0} (suits : Fitting K) (d : Definitions) where
  -- this holds of all lists for which a state stands under a watermark
  abbrev pub ForLists : ℕ → K → (List Kept → List ℕ → Type 0) → Type 0
  ForLists water state holds = (kept : List Kept) (marks : List ℕ) → suits d kept marks water state → holds kept marks

  -- a tuple is taken in
  abbrev pub TakesInTuple : {Y : Type 0} → (K → List ℕ) → (K → ℕ) → ℕ → Kept → K → K → Vec Change Y → Vec Change Y → Type 0
  TakesInTuple key_of next_position water x old new out longer =
      TakesIn suits d key_of next_position water (after_put water x) (x.position + 1) old new out longer

  -- a mark is taken in
  abbrev pub TakesInMark : {Y : Type 0} → (K → List ℕ) → (K → ℕ) → ℕ → ℕ → K → K → Vec Change Y → Vec Change Y → Type 0
  TakesInMark key_of next_position water time old new out longer =
      TakesIn suits d key_of next_position water (after_mark water time) (next_position old) old new out longer

  -- a move of the watermark is taken in
  abbrev pub TakesInMove : {Y : Type 0} → (K → List ℕ) → (K → ℕ) → ℕ → ℕ → K → K → Vec Change Y → Vec Change Y → Type 0
  TakesInMove key_of next_position water to old new out longer =
      TakesIn suits d key_of next_position water (after_move to) (next_position old) old new out longer

  -- a tuple takes at most as many steps as are said of the key before and after it
  abbrev pub PutWithin : (Definitions → Moment → Moment → ℕ → K → ℕ) → ℕ → Kept → K → ℕ → ℕ → Type 0
  PutWithin put_work water x old steps steps_then =
      ForLists water old (λ kept marks. steps_then ≤ steps + put_work d (moment kept marks water) (after_put water x kept marks) x.time old)

  -- it takes no more than a bound on them whatever the state is
  abbrev pub PutIsBounded : (K → List ℕ) → (Definitions → List ℕ → Moment → Moment → ℕ → ℕ → Type 0) → ℕ → Kept → K → ℕ → ℕ → Type 0
  PutIsBounded key_of bounds_put water x old steps steps_then =
      ForLists water old (λ kept marks. (bound : ℕ) × bounds_put d (key_of old) (moment kept marks water) (after_put water x kept marks) x.time bound × (steps_then ≤ steps + bound))

  -- a mark takes at most as many steps as are said of the key before and after it
  abbrev pub MarkWithin : (Definitions → Moment → Moment → ℕ → K → K → ℕ) → ℕ → ℕ → K → K → ℕ → ℕ → Type 0
  MarkWithin mark_work water time old new steps steps_then =
      ForLists water old (λ kept marks. steps_then ≤ steps + mark_work d (moment kept marks water) (after_mark water time kept marks) time old new)

  -- it takes no more than a bound on them whatever the state is
  abbrev pub MarkIsBounded : (K → List ℕ) → (Definitions → List ℕ → Moment → Moment → ℕ → ℕ → Type 0) → ℕ → ℕ → K → ℕ → ℕ → Type 0
  MarkIsBounded key_of bounds_mark water time old steps steps_then =
      ForLists water old (λ kept marks. (bound : ℕ) × bounds_mark d (key_of old) (moment kept marks water) (after_mark water time kept marks) time bound × (steps_then ≤ steps + bound))

  -- where nothing came before the watermark, a move takes at most as many steps as are said of the key before and after it, beside what it takes off the credit
  abbrev pub MovePaysAhead : (Definitions → ℕ → K → Type 0) → (K → ℕ) → (Definitions → Moment → Moment → K → K → ℕ) → ℕ → ℕ → K → K → ℕ → ℕ → Type 0
  MovePaysAhead is_ahead credit_of move_work water to old new steps steps_then =
      ForLists water old (λ kept marks. is_ahead d water old → steps_then + credit_of new ≤ steps + credit_of old + move_work d (moment kept marks water) (after_move to kept marks) old new)

  -- and always at most these and those that catch up
  abbrev pub MovePaysBehind : (K → ℕ) → (Definitions → Moment → Moment → K → K → ℕ) → (Definitions → ℕ → K → ℕ) → ℕ → ℕ → K → K → ℕ → ℕ → Type 0
  MovePaysBehind credit_of move_work catch_up water to old new steps steps_then =
      ForLists water old (λ kept marks. steps_then + credit_of new ≤ steps + credit_of old + (move_work d (moment kept marks water) (after_move to kept marks) old new + catch_up d water old))

  -- it takes no more than a bound on them whatever came before it
  abbrev pub MoveIsBounded : (K → List ℕ) → (Definitions → List ℕ → Moment → Moment → ℕ → Type 0) → ℕ → ℕ → K → ℕ → ℕ → Type 0
  MoveIsBounded key_of bounds_move water to old steps steps_then =
      ForLists water old (λ kept marks. (bound : ℕ) × bounds_move d (key_of old) (moment kept marks water) (after_move to kept marks) bound × (steps_then ≤ steps + bound))

  -- a move to below a number changes nothing
  abbrev pub NothingDueBefore : (K → List ℕ) → ℕ → K → ℕ → Type 0
  NothingDueBefore key_of water state due =
      (kept : List Kept) (marks : List ℕ) (new : ℕ) → suits d kept marks water state → water ≤ new → new < due → changes_by_move d (key_of state) kept marks water new ≡ []

  -- under each watermark below it the state stands as it is
  abbrev pub WaitsBefore : ℕ → K → ℕ → Type 0
  WaitsBefore water state due =
      (kept : List Kept) (marks : List ℕ) (new : ℕ) → suits d kept marks water state → water ≤ new → new < due → IsWater new → suits d kept marks new state

  -- at that number, if it is a watermark, something more is complete or settled
  abbrev pub SomethingDueAt : (K → List ℕ) → ℕ → K → ℕ → Type 0
  SomethingDueAt key_of water state due =
      (kept : List Kept) (marks : List ℕ) → suits d kept marks water state → due ≤ FINAL → (water < due) × BringsMore d (key_of state) kept marks water due

  -- that number is an exact one
  abbrev pub IsExactlyDue : (K → List ℕ) → ℕ → K → ℕ → Type 0
  IsExactlyDue key_of water state due = ForLists water state (λ kept marks. IsExact d (key_of state) kept marks water due)

  -- so many slices have the tuples that are unsettled under a watermark, no earlier than that of the state
  abbrev pub CountsSlices : ℕ → K → ℕ → Type 0
  CountsSlices water state count =
      (kept : List Kept) (marks : List ℕ) (w : ℕ) → suits d kept marks w state → w ≤ water → count ≡ length (slices_at d (moment kept marks water))
