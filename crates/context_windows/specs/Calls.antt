-- What the calls of sessions and of intervals between marks ask, and what they leave.
use Rattle.std.specs.Prelude.{◌≡◌, ◌≤◌, ◌+◌, ℕ, List, Vec, Result, IfOk, OnOk, length}
use Rattle.stream_base.specs.declared.limits.TheConstants.{TIME_MAX}
use Rattle.stream_base.specs.declared.change.Change.{Change}
use Rattle.stream_base.specs.Limits.{Definitions}
use Rattle.agg_store.specs.Stored.{Stored}
use Rattle.window_spans.specs.declared.span.Span.{Span}
use Rattle.window_spans.specs.Telling.{Tells}
use Rattle.context_windows.specs.Marked.{Marked}
use Rattle.context_windows.specs.Spanned.{IsSessionAt, Spanned}

-- a tuple may come at this time, and one of the definitions is this window of sessions
pub record MayComeAt (d : Definitions) (window at : ℕ) : Type 0 where
  pub session : IsSessionAt d window
  pub time : at ≤ TIME_MAX

-- a tuple or a mark may come at this time, and there is room for it
pub record MayTake (at spare : ℕ) : Type 0 where
  pub time : at ≤ TIME_MAX
  pub room : 1 ≤ spare

-- on success this count is answered, and there is room for one more
pub record Promises {E : Type 0} (count : ℕ) (answer : Result ℕ E) (spare : ℕ) : Type 0 where
  pub number : IfOk answer (λ n. n ≡ count)
  pub room : OnOk answer (1 ≤ spare)

-- the intervals between marks, without the marks
abbrev pub spanned_of : Marked → Spanned
spanned_of s = record { spans = s.spans; stood = s.stood; forgotten = s.forgotten; spare = s.spare }

-- only what was kept of those that stood differs
pub record DiffersInStood (old new : Spanned) : Type 0 where
  pub spans : new.spans ≡ old.spans
  pub forgotten : new.forgotten ≡ old.forgotten
  pub spare : new.spare ≡ old.spare

-- one is taken in: no more is forgotten, and there is room for at most one less
pub record TakesOne (old new : Spanned) : Type 0 where
  pub forgotten : new.forgotten ≡ old.forgotten
  pub room_left : old.spare ≤ new.spare + 1

-- these are told over a store, each in at most 64 (reach + 2) steps
abbrev pub TellsEach : {Z : Type 0} → List Span → Stored → Vec Change Z → Vec Change Z → ℕ → ℕ → Type 0
TellsEach spans store old new steps later = Tells (length spans) store.reach old new steps later
