-- What a part of a key promises at each call, of every key for which it stands.
use Rattle.std.specs.Prelude.{◌≡◌, ◌≢◌, ◌≤◌, ◌<◌, ◌+◌, ◌++◌, ℕ, List, [], Result, Vec, length}
use Rattle.stream_base.specs.Laws.{completions}
use Rattle.stream_base.specs.Limits.{Definitions}
use Rattle.stream_base.specs.declared.change.Change.{Change}
use Rattle.stream_base.specs.declared.kept.Kept.{Kept}
use Rattle.stream_base.specs.declared.limits.TheConstants.{FINAL}
use Rattle.stream_base.specs.Model.Changes.{Moment, emissions, retractions}
use Rattle.stream_base.specs.Model.Moments.{IsWater}
use Rattle.window_laws.specs.After.{at_water, with_mark, with_tuple}
use Rattle.window_laws.specs.Settled.{without_first}
use Rattle.agg_store.specs.Stored.{Stored}
use Rattle.key_parts.specs.Calls.{LosesSettled, Prepares, Standing, StandsAt, TakesMark, TakesTuple, window_at, window_kind}
use Rattle.key_parts.specs.Moves.{SettlesUpTo}
use Rattle.key_parts.specs.Work.{CostsAtMost, most_moved, paid_work}

-- the changes of the window at a place from one moment of a key to another, retractions first
abbrev pub window_changes : Definitions → ℕ → List ℕ → Moment → Moment → List Change
window_changes d window key old new =
    retractions key old new (window, window_at d window) ++ emissions key old new (window, window_at d window)

-- the rows of the window at a place that a move of the watermark completes
abbrev pub window_completions : Definitions → ℕ → List ℕ → Moment → ℕ → List Change
window_completions d window key m new = completions key m new (window, window_at d window)

-- at a watermark, with this store, the part of the window at a place has missed nothing
abbrev pub BeingAhead : Type 0 → Type 1
BeingAhead P = Definitions → ℕ → ℕ → Stored → P → Type 0

-- a call makes room for a tuple or a mark at a time under a watermark, as many changes as it answers for
abbrev pub PreparesEntry : {P E : Type 0} → Standing P → BeingAhead P → (P → ℕ) → (Definitions → ℕ → ℕ → ℕ → P → Type 0) → (Definitions → ℕ → ℕ → ℕ → P → ℕ)
    → Definitions → ℕ → ℕ → ℕ → P → P → Result ℕ E → Type 0
PreparesEntry stands is_ahead credit_of is_ready room_for d window time water old new answer =
    Prepares (stands d window) (is_ahead d window) credit_of (is_ready d window time water) (room_for d window time water) old new answer

-- a call makes room for a move from one watermark to another, with this store
abbrev pub PreparesMove : {P E : Type 0} → Standing P → BeingAhead P → (P → ℕ) → (Definitions → ℕ → Stored → ℕ → ℕ → P → Type 0) → (Definitions → ℕ → Stored → ℕ → ℕ → P → ℕ)
    → Definitions → ℕ → Stored → ℕ → ℕ → P → P → Result ℕ E → Type 0
PreparesMove stands is_ahead credit_of can_move room_for d window s old new part part_then answer =
    Prepares (stands d window) (is_ahead d window) credit_of (can_move d window s old new) (room_for d window s old new) part part_then answer

module _ {P : Type 0} (stands : Standing P) (d : Definitions) (window : ℕ) where
  -- this holds of each key for which a part stands at a watermark, with this store
  abbrev pub ForKey : ℕ → Stored → P → (Moment → ℕ → Type 0) → Type 0
  ForKey water s part holds = (m : Moment) (n : ℕ) → StandsAt stands d window water s part m n → holds m n

  -- a part was asked: it has kept what stands of the instances that a tuple at a time changes, of each key for which it stood
  abbrev pub WasAsked : (Definitions → ℕ → Moment → ℕ → P → Type 0) → ℕ → ℕ → Stored → P → P → Type 0
  WasAsked is_asked time water s old new = ForKey water s old (λ m n. is_asked d window m time new)

  -- a tuple comes to a part that has kept what it changes of some key
  abbrev pub TupleComes : (Definitions → ℕ → Moment → ℕ → P → Type 0) → ℕ → Kept → Stored → P → Type 0
  TupleComes is_asked water x s part =
      (m : Moment) × (n : ℕ) × (before : Stored) × (more : ℕ) × TakesTuple stands d window is_asked water x s part m n before more

  -- this holds of each key of which a part has kept what the tuple changes that comes to it: of what was known and how many tuples the store lacked, of the store before, and of how many it lacks then
  abbrev pub ForTuple : (Definitions → ℕ → Moment → ℕ → P → Type 0) → ℕ → Kept → Stored → P → (Moment → ℕ → Stored → ℕ → Type 0) → Type 0
  ForTuple is_asked water x s part holds =
      (m : Moment) (n : ℕ) (before : Stored) (more : ℕ) → TakesTuple stands d window is_asked water x s part m n before more → holds m n before more

  -- a part that took a tuple in stands for each key with it
  abbrev pub StandsWithTuple : (Definitions → ℕ → Moment → ℕ → P → Type 0) → ℕ → Kept → Stored → P → P → Type 0
  StandsWithTuple is_asked water x s old new =
      ForTuple is_asked water x s old (λ m n before more. stands d window (with_tuple m x) more s new)

  -- what was appended are the changes of the window by the tuple that a part took in
  abbrev pub AddsByTuple : {Z : Type 0} → (Definitions → ℕ → Moment → ℕ → P → Type 0) → ℕ → Kept → Stored → P → List ℕ → Vec Change Z → Vec Change Z → Type 0
  AddsByTuple is_asked water x s old key out longer =
      ForTuple is_asked water x s old (λ m n before more. longer.items ≡ out.items ++ window_changes d window key m (with_tuple m x))

  -- a part that had missed nothing hasn't by a tuple either, which isn't before what is complete
  abbrev pub AheadOfTuple : (Definitions → ℕ → Moment → ℕ → P → Type 0) → (Definitions → ℕ → ℕ → ℕ) → BeingAhead P → ℕ → Kept → Stored → P → P → Type 0
  AheadOfTuple is_asked complete_by is_ahead water x s old new =
      ForTuple is_asked water x s old (λ m n before more. complete_by d window water ≤ x.time → is_ahead d window water before old → is_ahead d window water s new)

  -- a mark comes to a part that stands for some key
  abbrev pub MarkComes : ℕ → ℕ → Stored → P → Type 0
  MarkComes water time s part =
      (m : Moment) × (n : ℕ) × (before : Stored) × TakesMark stands d window water time s part m n before

  -- this holds of each key for which a part stands that a mark comes to: of what was known, how many tuples the store lacked, and the store before
  abbrev pub ForMark : ℕ → ℕ → Stored → P → (Moment → ℕ → Stored → Type 0) → Type 0
  ForMark water time s part holds =
      (m : Moment) (n : ℕ) (before : Stored) → TakesMark stands d window water time s part m n before → holds m n before

  -- a part that took a mark in stands for each key with it
  abbrev pub StandsWithMark : ℕ → ℕ → Stored → P → P → Type 0
  StandsWithMark water time s old new =
      ForMark water time s old (λ m n before. stands d window (with_mark m time) n s new)

  -- what was appended are the changes of the window by the mark that a part took in
  abbrev pub AddsByMark : {Z : Type 0} → ℕ → ℕ → Stored → P → List ℕ → Vec Change Z → Vec Change Z → Type 0
  AddsByMark water time s old key out longer =
      ForMark water time s old (λ m n before. longer.items ≡ out.items ++ window_changes d window key m (with_mark m time))

  -- a part that had missed nothing hasn't by a mark either, which isn't before what is complete
  abbrev pub AheadOfMark : (Definitions → ℕ → ℕ → ℕ) → BeingAhead P → ℕ → ℕ → Stored → P → P → Type 0
  AheadOfMark complete_by is_ahead water time s old new =
      ForMark water time s old (λ m n before. complete_by d window water ≤ time → is_ahead d window water before old → is_ahead d window water s new)

  -- a part that was moved stands for each key at the new watermark
  abbrev pub StandsMoved : ℕ → ℕ → Stored → P → P → Type 0
  StandsMoved old new s part part_then = ForKey old s part (λ m n. stands d window (at_water m new) n s part_then)

  -- what was appended are the rows of the window that the move of a part completes
  abbrev pub AddsByMove : {Z : Type 0} → ℕ → ℕ → Stored → P → List ℕ → Vec Change Z → Vec Change Z → Type 0
  AddsByMove old new s part key out longer =
      ForKey old s part (λ m n. longer.items ≡ out.items ++ window_completions d window key m new)

  -- a part that was moved has missed nothing by the new watermark
  abbrev pub AheadMoved : BeingAhead P → ℕ → ℕ → Stored → P → P → Type 0
  AheadMoved is_ahead old new s part part_then = ForKey old s part (λ m n. is_ahead d window new s part_then)

  -- the most that a move takes on credit which appends so many rows, of a part that has missed nothing: what it takes up in this store
  abbrev pub PaysAhead : BeingAhead P → (P → ℕ) → (Definitions → ℕ → Stored → ℕ → ℕ → ℕ) → ℕ → ℕ → Stored → P → P → ℕ → ℕ → ℕ → Type 0
  PaysAhead is_ahead credit_of taken_up old new s part part_then rows steps steps_then =
      ForKey old s part (λ m n. is_ahead d window old s part → CostsAtMost (paid_work (window_kind d window) s.reach (taken_up d window s old new) rows) steps steps_then (credit_of part) (credit_of part_then))

  -- and of any part: what it takes up, and what it can have missed
  abbrev pub PaysBehind : (P → ℕ) → (Definitions → ℕ → Stored → ℕ → ℕ → ℕ) → (Definitions → ℕ → Stored → ℕ → ℕ) → ℕ → ℕ → Stored → P → P → ℕ → ℕ → ℕ → Type 0
  PaysBehind credit_of taken_up missed old new s part part_then rows steps steps_then =
      ForKey old s part (λ m n. CostsAtMost (paid_work (window_kind d window) s.reach (taken_up d window s old new + missed d window s old) rows) steps steps_then (credit_of part) (credit_of part_then))

  -- the most that a move takes of whatever part, which appends so many rows
  abbrev pub StepsAtMost : ℕ → Stored → P → ℕ → ℕ → ℕ → Type 0
  StepsAtMost old s part rows steps steps_then =
      ForKey old s part (λ m n. steps_then ≤ steps + most_moved (window_kind d window) (length s.slices) s.reach rows)

  -- below a watermark a move completes nothing of the window, of whatever key the part stands for
  abbrev pub NoneCompleteBefore : ℕ → Stored → P → ℕ → Type 0
  NoneCompleteBefore water s part due =
      (key : List ℕ) (m : Moment) (n new : ℕ) → StandsAt stands d window water s part m n → water ≤ new → new < due → window_completions d window key m new ≡ []

  -- a move to a watermark, if it is one, completes something
  abbrev pub SomeCompleteAt : ℕ → Stored → P → ℕ → Type 0
  SomeCompleteAt water s part due =
      (key : List ℕ) (m : Moment) (n : ℕ) → StandsAt stands d window water s part m n → due ≤ FINAL → (water < due) × (window_completions d window key m due ≢ [])

  -- under a watermark, no earlier than that of the key that a part stands for, tuples are settled in the window up to a time and no further
  abbrev pub SettlesTo : ℕ → P → ℕ → Type 0
  SettlesTo water part time =
      (m : Moment) (n : ℕ) (s : Stored) (w : ℕ) → w ≤ water → StandsAt stands d window w s part m n → SettlesUpTo d.lateness (at_water (without_first n m) water) (window_at d window) time

  -- under each such watermark they are up to a time of its own
  abbrev pub SettlesToEach : P → (ℕ → ℕ) → Type 0
  SettlesToEach part time_at =
      (m : Moment) (n : ℕ) (s : Stored) (w water : ℕ) → w ≤ water → IsWater water → StandsAt stands d window w s part m n
      → SettlesUpTo d.lateness (at_water (without_first n m) water) (window_at d window) (time_at water)

  -- this holds of each key for which a part stands of which settled slices have left the store: of what is known, how many tuples the store lacked, up to which time they left, the store before, how many it lacks then, and the store then
  abbrev pub ForLoss : ℕ → P → (Moment → ℕ → ℕ → Stored → ℕ → Stored → Type 0) → Type 0
  ForLoss water part holds =
      (m : Moment) (n time : ℕ) (before : Stored) (more : ℕ) (after : Stored) → LosesSettled stands d window water time part m n before more after → holds m n time before more after

  -- a part from whose store slices left that are settled in its window, too, stands for each key as it is then
  abbrev pub StandsAfterLoss : (Definitions → ℕ → ℕ → P → ℕ) → ℕ → P → P → Type 0
  StandsAfterLoss settles_at water old new =
      ForLoss water old (λ m n time before more after. time ≤ settles_at d window water old → stands d window m more after new)

  -- a part that had missed nothing has missed nothing then
  abbrev pub AheadAfterLoss : BeingAhead P → ℕ → P → P → Type 0
  AheadAfterLoss is_ahead water old new =
      ForLoss water old (λ m n time before more after. is_ahead d window water before old → is_ahead d window water after new)
