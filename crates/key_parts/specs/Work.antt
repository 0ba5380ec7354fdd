-- How many changes a call appends at most, and how many combines the changes of a window take.
use Rattle.std.specs.Prelude.{◌≡◌, ◌≤◌, ◌+◌, ◌-◌, ◌*◌, ℕ, if◌then◌else◌, Vec, vec_capacity, vec_len}
use Rattle.stream_base.specs.Kinds.{events_in, is_events, is_timed}
use Rattle.stream_base.specs.declared.kind.Kind.{Kind}

-- the most that one fold takes over a tree of this reach
abbrev pub fold_work : ℕ → ℕ
fold_work reach = 64 * (reach + 2)

-- how many elements a vector has got
abbrev pub added : {X Z : Type 0} → Vec X Z → Vec X Z → ℕ
added old new = vec_len new - vec_len old

-- the most that one change by a tuple takes in a window of this kind, over a tree of this reach: that of one fold, or where the window counts events two for each tuple of the instance
abbrev pub change_work : Kind → ℕ → ℕ
change_work kind reach = if is_events kind then 2 * events_in kind else fold_work reach

-- the most that one row takes that a move completes in a window of this kind: one step where a lane folds it, that of one fold, or where the window counts events one for each tuple of the instance
abbrev pub row_work : Kind → ℕ → ℕ
row_work kind reach = if is_timed kind then 1 else if is_events kind then events_in kind else fold_work reach

-- the most that a move takes for each slice of its store in a window of this kind: a lane takes it up once, and lets it go
abbrev pub slice_work : Kind → ℕ
slice_work kind = if is_timed kind then 10 else 0

-- the most that a move takes in a window of this kind, whatever came before it, by how many slices the store has, its reach, and how many rows become complete
abbrev pub most_moved : Kind → ℕ → ℕ → ℕ → ℕ
most_moved kind slices reach rows = slice_work kind * slices + row_work kind reach * rows

-- the most that a move takes on credit in a window of this kind: ten for each slice that it takes up, and what its rows take
abbrev pub paid_work : Kind → ℕ → ℕ → ℕ → ℕ
paid_work kind reach slices rows = 10 * slices + row_work kind reach * rows

-- a vector has at most so many elements more, and took no memory for them
pub record AddsAtMost {X Z : Type 0} (most : ℕ) (old new : Vec X Z) : Type 0 where
  pub number : vec_len new ≤ vec_len old + most
  pub capacity : vec_capacity new ≡ vec_capacity old

-- a call takes at most so many steps, and doesn't add to what is left of those that were paid for
pub record Spends (most steps steps_then left left_then : ℕ) : Type 0 where
  pub work : steps_then ≤ steps + most
  pub credit : left_then ≤ left

-- a call takes at most so many steps more than it takes off what is left of those that were paid for
abbrev pub CostsAtMost : ℕ → ℕ → ℕ → ℕ → ℕ → Type 0
CostsAtMost most steps steps_then left left_then = steps_then + left_then ≤ steps + left + most

-- a call takes at most so many steps, and adds nothing to its part's credit
abbrev pub SpendsOn : {P : Type 0} → (P → ℕ) → ℕ → P → P → ℕ → ℕ → Type 0
SpendsOn credit_of most old new steps steps_then = Spends most steps steps_then (credit_of old) (credit_of new)
