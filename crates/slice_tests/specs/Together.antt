-- How a test keeps a store together with the windows that are told from it.
use Rattle.std.specs.Prelude.{◌≡◌, ◌≤◌, ℕ, length}
use Rattle.stream_base.specs.declared.limits.TheConstants.{TIME_MAX}
use Rattle.stream_base.specs.Limits.{Definitions}
use Rattle.agg_store.specs.Stored.{IsSliced, Stored, tuples_of}
use Rattle.context_windows.specs.Marked.{FollowsMarks, Marked}
use Rattle.context_windows.specs.Spanned.{FollowsSessions, IsSessionAt, Spanned, gap_at}

-- the sessions are those of all tuples in the store, whose slices are those of the definitions
pub record AreOfSessions (d : Definitions) (store : Stored) (s : Spanned) : Type 0 where
  pub session : IsSessionAt d 0
  pub sliced : IsSliced d.windows store
  pub follows : FollowsSessions (gap_at d 0) (tuples_of store) s

-- the intervals are those of all tuples and marks in the store, whose slices are those of the definitions
pub record AreOfMarks (d : Definitions) (store : Stored) (s : Marked) : Type 0 where
  pub sliced : IsSliced d.windows store
  pub follows : FollowsMarks store.marks (tuples_of store) s

-- the store has no more tuples than there are positions before this one
abbrev pub HaveCome : ℕ → Stored → Type 0
HaveCome position store = length (tuples_of store) ≤ position

-- the sessions are those of the store, and it is known up to which time they are forgotten
pub record AreKnown (d : Definitions) (store : Stored) (s : Spanned) (forgotten : ℕ) : Type 0 where
  pub together : AreOfSessions d store s
  pub known : s.forgotten ≡ forgotten

-- a tuple may come at a time that isn't forgotten
pub record MayJoin (at : ℕ) (d : Definitions) (store : Stored) (s : Spanned) : Type 0 where
  pub together : AreOfSessions d store s
  pub unsettled : s.forgotten ≤ at
  pub time : at ≤ TIME_MAX

-- after so many steps the intervals are those of the store, and it is known up to which time they are forgotten
pub record StandsAt (position : ℕ) (d : Definitions) (store : Stored) (s : Marked) (forgotten : ℕ) : Type 0 where
  pub together : AreOfMarks d store s
  pub few : HaveCome position store
  pub known : s.forgotten ≡ forgotten

-- after so many steps a tuple or a mark may come at a time that isn't forgotten
pub record MayCome (position at : ℕ) (d : Definitions) (store : Stored) (s : Marked) : Type 0 where
  pub together : AreOfMarks d store s
  pub few : HaveCome position store
  pub unsettled : s.forgotten ≤ at
  pub time : at ≤ TIME_MAX

-- no more intervals are forgotten
pub record ForgetsNone (old : Marked) (before : ℕ) (new : Marked) (after : ℕ) : Type 0 where
  pub same : new.forgotten ≡ old.forgotten
  pub forgotten : after ≡ before
