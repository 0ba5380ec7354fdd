-- What the sessions of a window stand for, where settled tuples may have left the store.
use Rattle.std.specs.Prelude.{◌≡◌, ◌≤◌, ◌<◌, ◌-◌, ℕ, true, drop, length}
use Rattle.std.proofs.lemmas.Bool.{false≢true}
use Rattle.stream_base.specs.Kinds.{is_session, is_timed}
use Rattle.stream_base.specs.declared.kind.Kind.{Kind}
use Rattle.stream_base.specs.declared.kind.Kind.TheVariants.{Session}
use Rattle.stream_base.specs.Limits.{Definitions}
use Rattle.stream_base.specs.declared.func.Func.{Func}
use Rattle.stream_base.specs.Model.Changes.{Moment}
use Rattle.key_parts.specs.Calls.{window_at, window_kind}
use Rattle.key_parts.specs.PartLaws.{IsForServed}
use Rattle.window_laws.specs.After.{at_water}
use Rattle.window_spans.proofs.Lasts.{stays_before}
use Rattle.context_windows.specs.Spanned.{FollowsSessions, HasAsked, IsSession, IsSessionAt, Remembers, Spanned, gap_at}

-- one of the definitions is this window of sessions, and its function can be shown
pub record IsSessionShown (serves : Func → Type 0) (d : Definitions) (window : ℕ) : Type 0 where
  pub within : window < length d.windows
  pub session : is_session (window_kind d window) ≡ true
  pub shown : serves (window_at d window).func

-- they are the sessions of all that is kept of a key, and of what is left of it without so many first tuples, but for some that end by the watermark minus the lateness; the function of their window can be shown
pub record DoStand (serves : Func → Type 0) (d : Definitions) (window : ℕ) (m : Moment) (n : ℕ) (s : Spanned) : Type 0 where
  pub session : IsSessionAt d window
  pub shown : serves (window_at d window).func
  pub follows : FollowsSessions (gap_at d window) m.kept s
  pub left : FollowsSessions (gap_at d window) (drop n m.kept) s
  pub bounded : s.forgotten ≤ m.water - d.lateness

-- of those that a tuple at a time may change is kept what they show
pub record AreAsked (d : Definitions) (window : ℕ) (m : Moment) (time : ℕ) (s : Spanned) : Type 0 where
  pub asked : HasAsked (gap_at d window) time m.water s
  pub remembers : Remembers (window_at d window) time m.water m.kept s

-- at a later watermark they stand on
pub do_stand_on : {serves : Func → Type 0} → (d : Definitions) (window : ℕ) (m : Moment) (n : ℕ) (s : Spanned) (new : ℕ) → DoStand serves d window m n s → m.water ≤ new → DoStand serves d window (at_water m new) n s
do_stand_on {serves} d window m n s new stood rises = record {
  session = stood.session;
  shown = stood.shown;
  follows = stood.follows;
  left = stood.left;
  bounded = stays_before s.forgotten m.water new d.lateness stood.bounded rises;
}

-- a window of sessions is such a one
pub sessions_shown : (serves : Func → Type 0) → IsForServed is_session serves (IsSessionShown serves)
sessions_shown serves d window within session shows = record { within = within; session = session; shown = shows }

-- it is neither tumbling nor sliding
session_or_timed : (kind : Kind) → IsSession kind → is_timed kind ≡ true → ⊥
session_or_timed (Session gap) session timed = false≢true timed
session_or_timed kind session timed = session

pub sessions_untimed : (d : Definitions) (window : ℕ) → IsSessionAt d window → is_timed (window_kind d window) ≡ true → ⊥
sessions_untimed d window at timed = session_or_timed (window_kind d window) at.session timed
