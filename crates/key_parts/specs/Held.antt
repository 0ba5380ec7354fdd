-- What the store of a key holds of what is kept of it.
use Rattle.std.specs.Prelude.{◌≡◌, ◌≤◌, ◌<◌, ◌-◌, ℕ, List, drop, All}
use Rattle.std.specs.List.{Contains}
use Rattle.stream_base.specs.Limits.{Definitions}
use Rattle.stream_base.specs.Model.Changes.{Moment}
use Rattle.window_laws.specs.Settled.{MayLeave}
use Rattle.agg_store.specs.Stored.{IsSliced, Stored, tuples_of}

-- two lists have the same marks behind a time
pub record AreSameBehind (time : ℕ) (some all : List ℕ) : Type 0 where
  pub there : (mark : ℕ) → time < mark → Contains some mark → Contains all mark
  pub back : (mark : ℕ) → time < mark → Contains all mark → Contains some mark

-- the store holds the tuples of a key without so many first ones, which are settled. None of them lies before what was dropped, which lies at or before the watermark minus the lateness. Its slices are those of the windows, and its marks are the key's behind what was dropped
pub record IsHeld (d : Definitions) (m : Moment) (n : ℕ) (s : Stored) : Type 0 where
  pub may_leave : MayLeave d m n
  pub tuples : tuples_of s ≡ drop n m.kept
  pub sliced : IsSliced d.windows s
  pub behind : All (λ x. s.dropped ≤ x.time) (tuples_of s)
  pub bounded : s.dropped ≤ m.water - d.lateness
  pub marks : AreSameBehind s.dropped s.marks m.marks
