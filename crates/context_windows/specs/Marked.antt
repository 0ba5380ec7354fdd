-- What the intervals between the marks of a key are in contracts.
use Rattle.std.specs.Prelude.{◌≡◌, ◌≤◌, ◌<◌, ◌⊎◌, ℕ, List, [], ◌∷◌, filter, map, max, nat_lt, nat_le, All, Option, None, Some, option_to_list, if◌then◌else◌}
use Rattle.std.specs.List.{Contains}
use Rattle.std.specs.List.Sorted.{IsStrictlyIncreasing}
use Rattle.stream_base.specs.declared.def.Def.{Def}
use Rattle.stream_base.specs.declared.func.Func.{Func}
use Rattle.stream_base.specs.declared.kept.Kept.{Kept}
use Rattle.stream_base.specs.declared.kind.Kind.TheVariants.{Marks}
use Rattle.stream_base.specs.declared.limits.TheConstants.{FINAL, TIME_MAX}
use Rattle.stream_base.specs.Laws.{TimesDoNotFall}
use Rattle.stream_base.specs.Model.Windows.{Instance, stretches, within}
use Rattle.window_laws.specs.After.{complete_at}
use Rattle.slice_lists.specs.Touched.{marks_left}
use Rattle.agg_store.specs.Stored.{Stored, tuples_of}
use Rattle.window_spans.specs.declared.span.Span.{Span}
use Rattle.window_spans.specs.declared.standing.Standing.{Standing}
use Rattle.window_spans.specs.Parted.{back_of, first_or, front_of, head_before, holder_of}
use Rattle.window_spans.specs.Spans.{AreApart, head_standing, is_near, near_of, span_of, stands}
use Rattle.window_spans.specs.Telling.{as_standing}

-- the spans of a key's intervals that have a tuple, oldest first; those of its marks that what comes can need, rising; what was kept of the one that stood before a tuple comes; up to which time intervals are forgotten; and for how many more there is room
pub record Marked : Type 0 where
  pub spans : List Span
  pub marks : List ℕ
  pub stood : List Standing
  pub forgotten : ℕ
  pub spare : ℕ

-- only room differs, and there is no less of it
pub record IsMarkedAsBefore (old new : Marked) : Type 0 where
  pub spans : new.spans ≡ old.spans
  pub marks : new.marks ≡ old.marks
  pub stood : new.stood ≡ old.stood
  pub forgotten : new.forgotten ≡ old.forgotten
  pub spare : old.spare ≤ new.spare

-- those that end by a time are forgotten, and the marks up to it but the greatest of them
abbrev pub marked_open_after : ℕ → Marked → Marked
marked_open_after time s = record {
  spans = filter (λ i. nat_lt time i.high) s.spans;
  marks = marks_left time s.marks;
  stood = s.stood;
  forgotten = max s.forgotten time;
  spare = s.spare;
}

-- an interval may start or end here: at 0, at a mark, or at the final time
abbrev pub IsEdge : List ℕ → ℕ → Type 0
IsEdge marks e = (e ≡ 0) ⊎ (Contains marks e ⊎ (e ≡ FINAL))

-- no mark lies inside an interval
abbrev pub IsClear : List ℕ → Span → Type 0
IsClear marks s = (mark : ℕ) → Contains marks mark → (mark ≤ s.low) ⊎ (s.high ≤ mark)

-- what the intervals of a key keep: they are apart and lie between edges that are next to one another, and the marks rise and lie within the limit
pub record AreIntervals (spans : List Span) (marks : List ℕ) : Type 0 where
  pub apart : AreApart spans
  pub rising : IsStrictlyIncreasing marks
  pub in_time : All (λ m. m ≤ TIME_MAX) marks
  pub edges : All (λ s. IsEdge marks s.low × IsEdge marks s.high) spans
  pub clear : All (IsClear marks) spans

-- the interval that holds a time: one that has a tuple, or else that between the marks at its sides
abbrev pub holder_in : ℕ → List Span → List ℕ → Span
holder_in time spans marks = first_or (holder_of marks time) (near_of 1 time spans)

-- the interval that a tuple at a time enters, if it stands
abbrev pub entered_at : ℕ → ℕ → Marked → List Span
entered_at time water s = filter (stands water) (holder_in time s.spans s.marks ∷ [])

-- the interval that has a tuple and holds a time, if it stands
abbrev pub asked_at : ℕ → ℕ → List Span → List Span
asked_at time water spans = option_to_list (head_standing water (near_of 1 time spans))

-- at least as many as the changes of a tuple or of a mark at a time: where its interval stands that goes and two come, and else one before the time may come to stand
abbrev pub most_changes : ℕ → ℕ → Span → ℕ
most_changes time water holder = if stands water holder then 3 else (if nat_le time water then 1 else 0)

-- the interval that a mark at a time parts: the one that has a tuple and begins before the time and ends behind it
abbrev pub parted_of : ℕ → List Span → Option Span
parted_of time spans = head_before time (near_of 1 time spans)

-- an interval that a mark parts, and its parts
abbrev pub with_parts : ℕ → Option Span → List Span
with_parts time None = []
with_parts time (Some s) = s ∷ front_of time s ∷ back_of time s ∷ []

-- the intervals with a tuple that end after a time
abbrev pub stretches_after : ℕ → List ℕ → List Kept → List Instance
stretches_after time marks kept = filter (λ i. nat_lt time i.high) (stretches marks kept)

-- some of the marks are enough from a time on: no others, all that lie behind it, and the greatest of those up to it
pub record AreEnoughFrom (time : ℕ) (some all : List ℕ) : Type 0 where
  pub own : (mark : ℕ) → Contains some mark → Contains all mark
  pub behind : (mark : ℕ) → time < mark → Contains all mark → Contains some mark
  pub last : (mark : ℕ) → mark ≤ time → Contains all mark
      → (later : ℕ) × Contains some later × (mark ≤ later) × (later ≤ time)

-- these are the spans of the intervals with a tuple that are not forgotten, and enough of the marks from then on
pub record FollowsMarks (marks : List ℕ) (kept : List Kept) (s : Marked) : Type 0 where
  pub in_order : TimesDoNotFall kept
  pub known : AreEnoughFrom s.forgotten s.marks marks
  pub spans : s.spans ≡ map span_of (stretches_after s.forgotten marks kept)

-- in each interval that ends after a time the store holds exactly the tuples that it selects
pub record HoldsStretches (time : ℕ) (marks : List ℕ) (kept : List Kept) (store : Stored) : Type 0 where
  pub chosen : All (λ i. within i.low i.high (tuples_of store) ≡ i.chosen) (stretches_after time marks kept)

-- the interval that holds a time, if it has a tuple and stands
abbrev pub holder_standing : ℕ → ℕ → List ℕ → List Kept → List Instance
holder_standing time water marks kept =
    complete_at water (filter (λ i. is_near 1 time (span_of i)) (stretches marks kept))

-- of that interval is kept what it shows
pub record RemembersHolder (func : Func) (time water : ℕ) (marks : List ℕ) (kept : List Kept) (s : Marked) : Type 0 where
  pub stood : s.stood ≡ map (as_standing func) (holder_standing time water marks kept)

-- a marks window with a function
abbrev pub marks_window : Func → Def
marks_window func = record { kind = Marks; func = func }
