-- What the sessions of a key are in contracts.
use Rattle.std.specs.Prelude.{◌≡◌, ◌≤◌, ◌<◌, ◌++◌, ℕ, List, filter, length, map, max, nat_lt, All}
use Rattle.stream_base.specs.declared.change.Change.{Change}
use Rattle.stream_base.specs.declared.def.Def.{Def}
use Rattle.stream_base.specs.declared.kept.Kept.{Kept}
use Rattle.stream_base.specs.declared.kind.Kind.{Kind}
use Rattle.stream_base.specs.declared.kind.Kind.TheVariants.{Session}
use Rattle.stream_base.specs.Laws.{TimesDoNotFall}
use Rattle.stream_base.specs.Limits.{Definitions}
use Rattle.stream_base.specs.Kinds.{IsKindWithin}
use Rattle.stream_base.specs.Model.Changes.{Moment, emissions, retractions}
use Rattle.stream_base.specs.Model.Windows.{Instance, sessions, within}
use Rattle.window_laws.specs.After.{complete_at}
use Rattle.agg_store.specs.Stored.{Stored, tuples_of}
use Rattle.window_spans.specs.declared.span.Span.{Span}
use Rattle.window_spans.specs.declared.standing.Standing.{Standing}
use Rattle.window_spans.specs.Spans.{asked_of, is_near, span_of}
use Rattle.window_spans.specs.Telling.{as_standing}
use Rattle.key_parts.specs.Calls.{window_at}

-- the spans of a key's sessions, oldest first; what was kept of those that stood before a tuple comes; up to which time sessions are forgotten; and for how many more there is room
pub record Spanned : Type 0 where
  pub spans : List Span
  pub stood : List Standing
  pub forgotten : ℕ
  pub spare : ℕ

-- only room differs, and there is no less of it
pub record IsAsBefore (old new : Spanned) : Type 0 where
  pub spans : new.spans ≡ old.spans
  pub stood : new.stood ≡ old.stood
  pub forgotten : new.forgotten ≡ old.forgotten
  pub spare : old.spare ≤ new.spare

-- those that end by a time are forgotten
abbrev pub open_after : ℕ → Spanned → Spanned
open_after time s = record {
  spans = filter (λ i. nat_lt time i.high) s.spans;
  stood = s.stood;
  forgotten = max s.forgotten time;
  spare = s.spare;
}

-- the kind is a session window, with a gap within its limits
abbrev pub IsSession : Kind → Type 0
IsSession (Session gap) = IsKindWithin (Session gap)
IsSession other = ⊥

-- the gap of a session window
abbrev pub gap_of : Kind → ℕ
gap_of (Session gap) = gap
gap_of other = 0

-- one of the definitions is this window of sessions
pub record IsSessionAt (d : Definitions) (window : ℕ) : Type 0 where
  pub within : window < length d.windows
  pub session : IsSession (window_at d window).kind

-- the gap of the window at a place of the definitions
abbrev pub gap_at : Definitions → ℕ → ℕ
gap_at d window = gap_of (window_at d window).kind

-- the sessions that end after a time
abbrev pub sessions_after : ℕ → ℕ → List Kept → List Instance
sessions_after gap time kept = filter (λ i. nat_lt time i.high) (sessions gap kept)

-- these are the spans of the sessions of the tuples that are not forgotten
pub record FollowsSessions (gap : ℕ) (kept : List Kept) (s : Spanned) : Type 0 where
  pub in_order : TimesDoNotFall kept
  pub spans : s.spans ≡ map span_of (sessions_after gap s.forgotten kept)

-- in each session that ends after a time the store holds exactly the tuples that it selects
pub record HoldsSessions (gap time : ℕ) (kept : List Kept) (store : Stored) : Type 0 where
  pub chosen : All (λ i. within i.low i.high (tuples_of store) ≡ i.chosen) (sessions_after gap time kept)

-- the sessions that stand of those less than the gap away from a time
abbrev pub near_standing : ℕ → ℕ → ℕ → List Kept → List Instance
near_standing gap time water kept =
    complete_at water (filter (λ i. is_near gap time (span_of i)) (sessions gap kept))

-- those that a tuple at a time may change are kept, whatever they show
pub record HasAsked (gap time water : ℕ) (s : Spanned) : Type 0 where
  pub spans : map (λ x. x.span) s.stood ≡ asked_of gap time water s.spans

-- of those that a tuple at a time may change is kept what they show
pub record Remembers (def : Def) (time water : ℕ) (kept : List Kept) (s : Spanned) : Type 0 where
  pub stood : s.stood ≡ map (as_standing def.func) (near_standing (gap_of def.kind) time water kept)

-- the changes of one window of a key from one moment to the next, retractions first
abbrev pub changes_of : List ℕ → Moment → Moment → ℕ × Def → List Change
changes_of key old new owner = retractions key old new owner ++ emissions key old new owner
