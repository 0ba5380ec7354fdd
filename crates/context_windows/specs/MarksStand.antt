-- What the intervals between the marks of a key stand for, where settled tuples may have left the store.
use Rattle.std.proofs.Common.{◌≡◌, ◌∙◌, ◌≤◌, ◌<◌, ◌-◌, ℕ, Bool, true, false, ap, drop, length, refl, sym}
use Rattle.std.proofs.lemmas.Bool.{false≢true}
use Rattle.stream_base.specs.Kinds.{is_timed}
use Rattle.stream_base.specs.declared.kind.Kind.{Kind}
use Rattle.stream_base.specs.Limits.{Definitions}
use Rattle.stream_base.specs.declared.func.Func.{Func}
use Rattle.stream_base.specs.declared.kind.Kind.TheVariants.{Marks}
use Rattle.stream_base.specs.Model.Changes.{Moment}
use Rattle.key_parts.specs.Calls.{window_at, window_kind}
use Rattle.key_parts.specs.PartLaws.{IsForServed}
use Rattle.window_laws.specs.After.{at_water}
use Rattle.window_spans.proofs.Lasts.{stays_before}
use Rattle.context_windows.specs.Marked.{FollowsMarks, Marked, RemembersHolder}

-- whether a window lies between marks
abbrev pub is_marks : Kind → Bool
is_marks Marks = true
is_marks kind = false

-- one of the definitions is this window between marks
pub record IsMarksAt (d : Definitions) (window : ℕ) : Type 0 where
  pub within : window < length d.windows
  pub kind : (window_at d window).kind ≡ Marks

-- one of the definitions is this window between marks, and its function can be shown
pub record IsMarksShown (serves : Func → Type 0) (d : Definitions) (window : ℕ) : Type 0 where
  pub marks : IsMarksAt d window
  pub shown : serves (window_at d window).func

-- they are the intervals with a tuple of all that is kept of a key, and of what is left of it without so many first tuples, but for some that end by the watermark minus the lateness; the function of their window can be shown
pub record DoStandBetween (serves : Func → Type 0) (d : Definitions) (window : ℕ) (m : Moment) (n : ℕ) (s : Marked) : Type 0 where
  pub marks : IsMarksAt d window
  pub shown : serves (window_at d window).func
  pub follows : FollowsMarks m.marks m.kept s
  pub left : FollowsMarks m.marks (drop n m.kept) s
  pub bounded : s.forgotten ≤ m.water - d.lateness

-- of the interval that a tuple at a time may change is kept what it shows
pub record RemembersHolderAt (d : Definitions) (window : ℕ) (m : Moment) (time : ℕ) (s : Marked) : Type 0 where
  pub remembers : RemembersHolder (window_at d window).func time m.water m.marks m.kept s

-- at a later watermark they stand on
pub do_stand_between_on : {serves : Func → Type 0} → (d : Definitions) (window : ℕ) (m : Moment) (n : ℕ) (s : Marked) (new : ℕ) → DoStandBetween serves d window m n s → m.water ≤ new → DoStandBetween serves d window (at_water m new) n s
do_stand_between_on {serves} d window m n s new stood rises = record {
  marks = stood.marks;
  shown = stood.shown;
  follows = stood.follows;
  left = stood.left;
  bounded = stays_before s.forgotten m.water new d.lateness stood.bounded rises;
}

-- a window between marks is such a one
is_between : (kind : Kind) → is_marks kind ≡ true → kind ≡ Marks
is_between Marks marks = refl
is_between kind marks = absurd (false≢true marks)

pub marks_shown : (serves : Func → Type 0) → IsForServed is_marks serves (IsMarksShown serves)
marks_shown serves d window within marks shows = record {
  marks = record { within = within; kind = is_between (window_kind d window) marks };
  shown = shows;
}

-- it is neither tumbling nor sliding
pub marks_untimed : (d : Definitions) (window : ℕ) → IsMarksAt d window → is_timed (window_kind d window) ≡ true → ⊥
marks_untimed d window at timed = false≢true (sym (ap is_timed at.kind) ∙ timed)
