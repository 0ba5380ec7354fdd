-- Sessions as spans of time.
use Rattle.std.specs.Prelude.{◌≡◌, ◌≤◌, ◌+◌, ◌-◌, ◌++◌, ◌==◌, ◌&&◌, ℕ, Bool, true, false, List, [], ◌∷◌, filter, fold, length, max, min, not, nat_le, nat_lt, take, drop, Option, None, Some, if◌then◌else◌, All}
use Rattle.std.specs.List.{AllWithin}
use Rattle.std.specs.List.Sorted.{IsNonDecreasingBy}
use Rattle.stream_base.specs.Model.Windows.{Instance}
use Rattle.window_spans.specs.declared.span.Span.{Span}

-- the span of an instance
abbrev pub span_of : Instance → Span
span_of i = record { low = i.low; high = i.high }

-- two spans start and end alike
abbrev pub is_same_span : Span → Span → Bool
is_same_span s t = (s.low == t.low) && (s.high == t.high)

-- none ends before it starts, and each ends before the later ones start
abbrev pub AreApart : List Span → Type 0
AreApart [] = Unit {0}
AreApart (s ∷ ss) = (s.low ≤ s.high) × All (λ t. s.high ≤ t.low) ss × AreApart ss

-- none ends before an earlier one does
abbrev pub EndInTurn : List Span → Type 0
EndInTurn spans = IsNonDecreasingBy (λ s. s.high) spans

-- none starts before an earlier one does
abbrev pub StartInTurn : List Span → Type 0
StartInTurn spans = IsNonDecreasingBy (λ s. s.low) spans

-- a session lies less than the gap away from a time
abbrev pub is_near : ℕ → ℕ → Span → Bool
is_near gap time s = nat_lt time s.high && nat_lt s.low (time + gap)

-- the sessions less than the gap away from a time
abbrev pub near_of : ℕ → ℕ → List Span → List Span
near_of gap time spans = filter (is_near gap time) spans

-- a session stands at a watermark
abbrev pub stands : ℕ → Span → Bool
stands water s = nat_le s.high water

-- the least span over two
abbrev pub over_both : Span → Span → Span
over_both s t = record { low = min s.low t.low; high = max s.high t.high }

-- the session of a tuple alone
abbrev pub span_alone : ℕ → ℕ → Span
span_alone gap time = record { low = time; high = time + gap }

-- the session that a tuple makes with some others
abbrev pub joined_span : ℕ → ℕ → List Span → Span
joined_span gap time near = fold over_both (span_alone gap time) near

-- the first of some sessions, if there is one and it stands
abbrev pub head_standing : ℕ → List Span → Option Span
head_standing water [] = None
head_standing water (s ∷ ss) = if stands water s then Some s else None

-- those that stand of the sessions less than the gap away from a time, of which there are at most two
abbrev pub asked_of : ℕ → ℕ → ℕ → List Span → List Span
asked_of gap time water spans = take 2 (filter (stands water) (near_of gap time spans))

-- a session that stood stands no longer, unless the one that a tuple made stands and has its span
abbrev pub goes : ℕ → Span → Span → Bool
goes water joined s = not (stands water joined && is_same_span s joined)

-- the sessions with a tuple at a time more: those less than the gap away become one with it, and those that end before it or start behind it stay
abbrev pub spans_with : ℕ → ℕ → List Span → List Span
spans_with gap time spans =
    filter (λ s. nat_le s.high time) spans
    ++ joined_span gap time (near_of gap time spans) ∷ filter (λ s. nat_le (time + gap) s.low) spans

-- the session that a tuple at a time makes, if it stands
abbrev pub told_at : ℕ → ℕ → ℕ → List Span → List Span
told_at gap time water spans = filter (stands water) (joined_span gap time (near_of gap time spans) ∷ [])

-- how many changes there are where a tuple makes this session and these had stood
abbrev pub changes_of_joining : ℕ → Span → List Span → ℕ
changes_of_joining water joined stood =
    length (filter (goes water joined) stood) + (if stands water joined then 1 else 0)

-- how many changes a tuple at a time makes
abbrev pub put_changes : ℕ → ℕ → ℕ → List Span → ℕ
put_changes gap time water spans =
    changes_of_joining water (joined_span gap time (near_of gap time spans)) (asked_of gap time water spans)

-- a session becomes complete where it ends after the old watermark and at or before the new one
abbrev pub is_due : ℕ → ℕ → Span → Bool
is_due old new s = nat_lt old s.high && nat_le s.high new

-- the sessions that become complete
abbrev pub due_of : ℕ → ℕ → List Span → List Span
due_of old new spans = filter (is_due old new) spans

-- from one place up to another one, which does not lie before it, among so many elements
pub record IsRange (from to count : ℕ) : Type 0 where
  pub order : from ≤ to
  pub within : to ≤ count

-- so many elements pass a test: those at the front, and none behind them
pub record IsPlaceOf {X : Type 0} (p : X → Bool) (xs : List X) (place : ℕ) : Type 0 where
  pub within : place ≤ length xs
  pub before : AllWithin (λ x. p x ≡ true) xs 0 place
  pub behind : AllWithin (λ x. p x ≡ false) xs place (length xs)

-- from one place up to another lie the sessions less than the gap away from a time: those in front end at or before it, and those behind start at the gap behind it or later
pub record AreNearAt (gap time : ℕ) (spans : List Span) (from to : ℕ) : Type 0 where
  pub order : from ≤ to
  pub within : to ≤ length spans
  pub front : filter (λ s. nat_le s.high time) spans ≡ take from spans
  pub near : near_of gap time spans ≡ take (to - from) (drop from spans)
  pub back : filter (λ s. nat_le (time + gap) s.low) spans ≡ drop to spans
