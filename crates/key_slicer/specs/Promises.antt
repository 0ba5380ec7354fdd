-- What the parts of a key's windows promise together at each call, of every key for which they stand.
use Rattle.std.specs.Prelude.{◌≡◌, ◌≢◌, ◌≤◌, ◌<◌, ◌+◌, ◌-◌, ◌++◌, ℕ, List, [], Result, Vec, length}
use Rattle.std.specs.List.{enumerate_from, flat_map}
use Rattle.stream_base.specs.Limits.{Definitions}
use Rattle.stream_base.specs.declared.change.Change.{Change}
use Rattle.stream_base.specs.declared.kept.Kept.{Kept}
use Rattle.stream_base.specs.declared.limits.TheConstants.{FINAL}
use Rattle.stream_base.specs.Model.Changes.{Moment}
use Rattle.stream_base.specs.Model.Moments.{IsWater}
use Rattle.window_laws.specs.After.{at_water, with_mark, with_tuple}
use Rattle.window_laws.specs.Settled.{without_first}
use Rattle.agg_store.specs.Stored.{Stored}
use Rattle.plain_windows.specs.Changing.{all_completions}
use Rattle.key_parts.specs.Calls.{Prepares, Standing, window_at}
use Rattle.key_parts.specs.Moves.{SettlesUpTo}
use Rattle.key_parts.specs.Promises.{BeingAhead}
use Rattle.key_parts.specs.Work.{CostsAtMost, SpendsOn}
use Rattle.key_slicer.specs.declared.parts.Parts.{Parts}
use Rattle.key_slicer.specs.Parts.{AllAhead, AllLoseSettled, AllStandAt, AllTakeMark, AllTakeTuple, AreStanding, EachPart, HasFewMarks, IsLeastOf, all_credit, rooms, turns}
use Rattle.key_slicer.specs.Work.{TakenUp, catch_up, moves_work, turns_work, walks_work}

-- the changes of all windows from one moment of a key to another, window by window
abbrev pub turns_of_all : Definitions → List ℕ → Moment → Moment → List Change
turns_of_all d key old new = flat_map (turns key old new) (enumerate_from 0 d.windows)

-- of how many instances all parts together have kept what stands
abbrev pub all_owed : {M P : Type 0} → (P → ℕ) → Parts M P → ℕ
all_owed owed parts = rooms (λ i part. owed part) parts.list.items

-- each part has room for a tuple or a mark at a time under a watermark
abbrev pub AllReady : {M P : Type 0} → (Definitions → ℕ → ℕ → ℕ → P → Type 0) → Definitions → ℕ → ℕ → Parts M P → Type 0
AllReady is_ready d time water parts = EachPart (λ i part. is_ready d i time water part) parts.list.items

-- how many changes all parts together append for it at most
abbrev pub entry_rooms : {M P : Type 0} → (Definitions → ℕ → ℕ → ℕ → P → ℕ) → Definitions → ℕ → ℕ → Parts M P → ℕ
entry_rooms room d time water parts = rooms (λ i part. room d i time water part) parts.list.items

-- each part has room for a move from one watermark to another, with this store
abbrev pub AllCanMove : {M P : Type 0} → (Definitions → ℕ → Stored → ℕ → ℕ → P → Type 0) → Definitions → Stored → ℕ → ℕ → Parts M P → Type 0
AllCanMove can_move d s old new parts = EachPart (λ i part. can_move d i s old new part) parts.list.items

-- how many changes all parts together append for that move at most
abbrev pub move_rooms : {M P : Type 0} → (Definitions → ℕ → Stored → ℕ → ℕ → P → ℕ) → Definitions → Stored → ℕ → ℕ → Parts M P → ℕ
move_rooms room d s old new parts = rooms (λ i part. room d i s old new part) parts.list.items

-- a call takes at most so many steps, and adds nothing to the credit of all parts together
abbrev pub AllSpend : {M P : Type 0} → (P → ℕ) → ℕ → Parts M P → Parts M P → ℕ → ℕ → Type 0
AllSpend credit_of most old new steps steps_then = SpendsOn (all_credit credit_of) most old.list.items new.list.items steps steps_then

-- a call makes room in each part for a tuple or a mark at a time under a watermark, as many changes as it answers for
abbrev pub AllPrepareEntry : {M P E : Type 0} → Standing P → BeingAhead P → (P → ℕ) → (Definitions → ℕ → ℕ → ℕ → P → Type 0) → (Definitions → ℕ → ℕ → ℕ → P → ℕ)
    → Definitions → ℕ → ℕ → Parts M P → Parts M P → Result ℕ E → Type 0
AllPrepareEntry stands is_ahead credit_of is_ready room_for d time water old new answer =
    Prepares (AreStanding stands d) (AllAhead is_ahead d) (all_credit credit_of) (EachPart (λ i part. is_ready d i time water part)) (rooms (λ i part. room_for d i time water part)) old.list.items new.list.items answer

-- a call makes room in each part for a move from one watermark to another, with this store
abbrev pub AllPrepareMove : {M P E : Type 0} → Standing P → BeingAhead P → (P → ℕ) → (Definitions → ℕ → Stored → ℕ → ℕ → P → Type 0) → (Definitions → ℕ → Stored → ℕ → ℕ → P → ℕ)
    → Definitions → Stored → ℕ → ℕ → Parts M P → Parts M P → Result ℕ E → Type 0
AllPrepareMove stands is_ahead credit_of can_move room_for d s old new parts parts_then answer =
    Prepares (AreStanding stands d) (AllAhead is_ahead d) (all_credit credit_of) (EachPart (λ i part. can_move d i s old new part)) (rooms (λ i part. room_for d i s old new part)) parts.list.items parts_then.list.items answer

-- a time is the least of the watermark minus the lateness and of those before which tuples are settled in the windows
abbrev pub IsLeastSettled : {M P : Type 0} → (Definitions → ℕ → ℕ → P → ℕ) → Definitions → ℕ → Parts M P → ℕ → Type 0
IsLeastSettled settles_at d water parts time = IsLeastOf (λ i part. settles_at d i water part) (water - d.lateness) parts.list.items time

-- at most half of the marks of a store lie before another one that lies up to that time
abbrev pub HasFewSettledMarks : {M P : Type 0} → (Definitions → ℕ → ℕ → P → ℕ) → Definitions → ℕ → Parts M P → Stored → Type 0
HasFewSettledMarks settles_at d water parts s = HasFewMarks (λ i part. settles_at d i water part) (water - d.lateness) parts.list.items s

module _ {M P : Type 0} (stands : Standing P) (d : Definitions) where
  -- this holds of each key for which the parts stand at a watermark, with this store
  abbrev pub ForKeyOfAll : ℕ → Stored → Parts M P → (Moment → ℕ → Type 0) → Type 0
  ForKeyOfAll water s parts holds = (m : Moment) (n : ℕ) → AllStandAt stands d water s parts.list.items m n → holds m n

  -- each part has kept what stands of the instances that a tuple at a time changes, of each key for which all stood
  abbrev pub AllAsked : (Definitions → ℕ → Moment → ℕ → P → Type 0) → ℕ → ℕ → Stored → Parts M P → Parts M P → Type 0
  AllAsked is_asked time water s old new =
      ForKeyOfAll water s old (λ m n. EachPart (λ i part. is_asked d i m time part) new.list.items)

  -- a tuple comes to parts that have kept what it changes of some key
  abbrev pub TupleComesToAll : (Definitions → ℕ → Moment → ℕ → P → Type 0) → ℕ → Kept → Stored → Parts M P → Type 0
  TupleComesToAll is_asked water x s parts =
      (m : Moment) × (n : ℕ) × (before : Stored) × (more : ℕ) × AllTakeTuple stands d is_asked water x s parts.list.items m n before more

  -- this holds of each key of which the parts have kept what the tuple changes that comes to them: of what was known and how many tuples the store lacked, of the store before, and of how many it lacks then
  abbrev pub ForTupleToAll : (Definitions → ℕ → Moment → ℕ → P → Type 0) → ℕ → Kept → Stored → Parts M P → (Moment → ℕ → Stored → ℕ → Type 0) → Type 0
  ForTupleToAll is_asked water x s parts holds =
      (m : Moment) (n : ℕ) (before : Stored) (more : ℕ) → AllTakeTuple stands d is_asked water x s parts.list.items m n before more → holds m n before more

  -- the parts that took a tuple in stand for each key with it
  abbrev pub AllStandWithTuple : (Definitions → ℕ → Moment → ℕ → P → Type 0) → ℕ → Kept → Stored → Parts M P → Parts M P → Type 0
  AllStandWithTuple is_asked water x s old new =
      ForTupleToAll is_asked water x s old (λ m n before more. AreStanding stands d (with_tuple m x) more s new.list.items)

  -- what was appended are the changes of all windows by the tuple that the parts took in
  abbrev pub AllAddByTuple : {Z : Type 0} → (Definitions → ℕ → Moment → ℕ → P → Type 0) → ℕ → Kept → Stored → Parts M P → List ℕ → Vec Change Z → Vec Change Z → Type 0
  AllAddByTuple is_asked water x s old key out longer =
      ForTupleToAll is_asked water x s old (λ m n before more. longer.items ≡ out.items ++ turns_of_all d key m (with_tuple m x))

  -- a tuple takes at most what all windows take for their changes by it
  abbrev pub AllStepForTuple : (Definitions → ℕ → Moment → ℕ → P → Type 0) → ℕ → Kept → Stored → Parts M P → List ℕ → ℕ → ℕ → Type 0
  AllStepForTuple is_asked water x s old key steps steps_then =
      ForTupleToAll is_asked water x s old (λ m n before more. steps_then ≤ steps + turns_work d key m (with_tuple m x) s.reach)

  -- parts that had missed nothing haven't by a tuple either, which isn't before the watermark
  abbrev pub AllAheadOfTuple : (Definitions → ℕ → Moment → ℕ → P → Type 0) → BeingAhead P → ℕ → Kept → Stored → Parts M P → Parts M P → Type 0
  AllAheadOfTuple is_asked is_ahead water x s old new =
      ForTupleToAll is_asked water x s old (λ m n before more. water ≤ x.time → AllAhead is_ahead d water before old.list.items → AllAhead is_ahead d water s new.list.items)

  -- a mark comes to parts that stand for some key
  abbrev pub MarkComesToAll : ℕ → ℕ → Stored → Parts M P → Type 0
  MarkComesToAll water time s parts =
      (m : Moment) × (n : ℕ) × (before : Stored) × AllTakeMark stands d water time s parts.list.items m n before

  -- this holds of each key for which the parts stand that a mark comes to: of what was known, how many tuples the store lacked, and the store before
  abbrev pub ForMarkToAll : ℕ → ℕ → Stored → Parts M P → (Moment → ℕ → Stored → Type 0) → Type 0
  ForMarkToAll water time s parts holds =
      (m : Moment) (n : ℕ) (before : Stored) → AllTakeMark stands d water time s parts.list.items m n before → holds m n before

  -- the parts that took a mark in stand for each key with it
  abbrev pub AllStandWithMark : ℕ → ℕ → Stored → Parts M P → Parts M P → Type 0
  AllStandWithMark water time s old new =
      ForMarkToAll water time s old (λ m n before. AreStanding stands d (with_mark m time) n s new.list.items)

  -- what was appended are the changes of all windows by the mark that the parts took in
  abbrev pub AllAddByMark : {Z : Type 0} → ℕ → ℕ → Stored → Parts M P → List ℕ → Vec Change Z → Vec Change Z → Type 0
  AllAddByMark water time s old key out longer =
      ForMarkToAll water time s old (λ m n before. longer.items ≡ out.items ++ turns_of_all d key m (with_mark m time))

  -- parts that had missed nothing haven't by a mark either, which isn't before the watermark
  abbrev pub AllAheadOfMark : BeingAhead P → ℕ → ℕ → Stored → Parts M P → Parts M P → Type 0
  AllAheadOfMark is_ahead water time s old new =
      ForMarkToAll water time s old (λ m n before. water ≤ time → AllAhead is_ahead d water before old.list.items → AllAhead is_ahead d water s new.list.items)

  -- the parts that were moved stand for each key at the new watermark
  abbrev pub AllStandMoved : ℕ → ℕ → Stored → Parts M P → Parts M P → Type 0
  AllStandMoved old new s parts parts_then =
      ForKeyOfAll old s parts (λ m n. AreStanding stands d (at_water m new) n s parts_then.list.items)

  -- what was appended are the rows of all windows that the move completes
  abbrev pub AllAddByMove : {Z : Type 0} → ℕ → ℕ → Stored → Parts M P → List ℕ → Vec Change Z → Vec Change Z → Type 0
  AllAddByMove old new s parts key out longer =
      ForKeyOfAll old s parts (λ m n. longer.items ≡ out.items ++ all_completions d.windows key m new)

  -- the parts that were moved have missed nothing by the new watermark
  abbrev pub AllAheadMoved : BeingAhead P → ℕ → ℕ → Stored → Parts M P → Parts M P → Type 0
  AllAheadMoved is_ahead old new s parts parts_then = ForKeyOfAll old s parts (λ m n. AllAhead is_ahead d new s parts_then.list.items)

  -- the most that a move takes on credit, of parts that have missed nothing: what all windows take up and complete
  abbrev pub AllPayAhead : BeingAhead P → (P → ℕ) → TakenUp → ℕ → ℕ → Stored → List ℕ → Parts M P → Parts M P → ℕ → ℕ → Type 0
  AllPayAhead is_ahead credit_of taken_up old new s key parts parts_then steps steps_then =
      ForKeyOfAll old s parts (λ m n. AllAhead is_ahead d old s parts.list.items → CostsAtMost (moves_work taken_up d key m new s) steps steps_then (all_credit credit_of parts.list.items) (all_credit credit_of parts_then.list.items))

  -- and of any parts: that, and what they can have missed
  abbrev pub AllPayBehind : (P → ℕ) → TakenUp → (Definitions → ℕ → Stored → ℕ → ℕ) → ℕ → ℕ → Stored → List ℕ → Parts M P → Parts M P → ℕ → ℕ → Type 0
  AllPayBehind credit_of taken_up missed old new s key parts parts_then steps steps_then =
      ForKeyOfAll old s parts (λ m n. CostsAtMost (moves_work taken_up d key m new s + catch_up missed d s old) steps steps_then (all_credit credit_of parts.list.items) (all_credit credit_of parts_then.list.items))

  -- the most that a move takes of whatever parts
  abbrev pub AllStepAtMost : ℕ → ℕ → Stored → Parts M P → List ℕ → ℕ → ℕ → Type 0
  AllStepAtMost old new s parts key steps steps_then =
      ForKeyOfAll old s parts (λ m n. steps_then ≤ steps + walks_work d key m new (length s.slices) s.reach)

  -- below a watermark a move completes nothing of any window, of whatever key the parts stand for
  abbrev pub NoneCompleteInAll : ℕ → Stored → Parts M P → ℕ → Type 0
  NoneCompleteInAll water s parts due =
      (key : List ℕ) (m : Moment) (n new : ℕ) → AllStandAt stands d water s parts.list.items m n → water ≤ new → new < due → all_completions d.windows key m new ≡ []

  -- a move to a watermark, if it is one, completes something in some window
  abbrev pub SomeCompleteInAll : ℕ → Stored → Parts M P → ℕ → Type 0
  SomeCompleteInAll water s parts due =
      (key : List ℕ) (m : Moment) (n : ℕ) → AllStandAt stands d water s parts.list.items m n → due ≤ FINAL → (water < due) × (all_completions d.windows key m due ≢ [])

  -- under a watermark, no earlier than that of the key for which the parts stand, tuples are settled in each window up to its time and no further
  abbrev pub AllSettle : (Definitions → ℕ → ℕ → P → ℕ) → ℕ → Parts M P → Type 0
  AllSettle settles_at water parts =
      (m : Moment) (n : ℕ) (s : Stored) (w : ℕ) → w ≤ water → AllStandAt stands d w s parts.list.items m n
      → EachPart (λ i part. SettlesUpTo d.lateness (at_water (without_first n m) water) (window_at d i) (settles_at d i water part)) parts.list.items

  -- they are so under each such watermark
  abbrev pub AllSettleUnderEach : (Definitions → ℕ → ℕ → P → ℕ) → Parts M P → Type 0
  AllSettleUnderEach settles_at parts =
      (m : Moment) (n : ℕ) (s : Stored) (w water : ℕ) → w ≤ water → IsWater water → AllStandAt stands d w s parts.list.items m n
      → EachPart (λ i part. SettlesUpTo d.lateness (at_water (without_first n m) water) (window_at d i) (settles_at d i water part)) parts.list.items

  -- this holds of each key for which the parts stand of which settled slices have left the store: of what is known, how many tuples the store lacked, up to which time they left, the store before, how many it lacks then, and the store then
  abbrev pub ForLossOfAll : ℕ → Parts M P → (Moment → ℕ → ℕ → Stored → ℕ → Stored → Type 0) → Type 0
  ForLossOfAll water parts holds =
      (m : Moment) (n time : ℕ) (before : Stored) (more : ℕ) (after : Stored) → AllLoseSettled stands d water time parts.list.items m n before more after → holds m n time before more after

  -- the parts from whose store slices left that are settled in each window, too, stand for each key as it is then
  abbrev pub AllStandAfterLoss : (Definitions → ℕ → ℕ → P → ℕ) → ℕ → Parts M P → Parts M P → Type 0
  AllStandAfterLoss settles_at water old new =
      ForLossOfAll water old (λ m n time before more after. EachPart (λ i part. time ≤ settles_at d i water part) old.list.items → AreStanding stands d m more after new.list.items)

  -- parts that had missed nothing have missed nothing then
  abbrev pub AllAheadAfterLoss : BeingAhead P → ℕ → Parts M P → Parts M P → Type 0
  AllAheadAfterLoss is_ahead water old new =
      ForLossOfAll water old (λ m n time before more after. AllAhead is_ahead d water before old.list.items → AllAhead is_ahead d water after new.list.items)
