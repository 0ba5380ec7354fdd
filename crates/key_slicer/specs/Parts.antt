-- The parts of a key's windows, each at the place of its window.
use Rattle.std.specs.Prelude.{◌≡◌, ◌≤◌, ◌<◌, ◌⊎◌, ◌*◌, ◌++◌, ℕ, List, length, slice_index_or, sum_by}
use Rattle.std.specs.List.{enumerate_from}
use Rattle.stream_base.specs.Limits.{Definitions}
use Rattle.stream_base.specs.declared.change.Change.{Change}
use Rattle.stream_base.specs.declared.def.Def.{Def}
use Rattle.stream_base.specs.declared.kept.Kept.{Kept}
use Rattle.stream_base.specs.Model.Changes.{Moment, emissions, retractions}
use Rattle.stream_base.specs.Model.Moments.{IsWater}
use Rattle.slice_lists.specs.Touched.{marks_left}
use Rattle.agg_store.specs.Stored.{IsStore, Stored}
use Rattle.key_parts.specs.Calls.{Standing}
use Rattle.key_parts.specs.Held.{IsHeld}
use Rattle.key_parts.specs.Moves.{AreLists, IsMarkStep, IsPurge, IsPutStep}

-- this holds of each part, with its place
abbrev pub EachPart : {P : Type 0} → (ℕ → P → Type 0) → List P → Type 0
EachPart {P} holds parts = (i : ℕ) (x : P) → i < length parts → holds i (slice_index_or parts i x)

-- the sum of what is said of each part, with its place
abbrev pub rooms : {P : Type 0} → (ℕ → P → ℕ) → List P → ℕ
rooms room parts = sum_by (λ w. room w.0 w.1) (enumerate_from 0 parts)

-- what is left, in all parts together, of the steps that were paid for
abbrev pub all_credit : {P : Type 0} → (P → ℕ) → List P → ℕ
all_credit credit parts = rooms (λ i part. credit part) parts

-- a time is the least of a greatest one and of what is said of each part, with its place
pub record IsLeastOf {P : Type 0} (time_of : ℕ → P → ℕ) (most : ℕ) (parts : List P) (time : ℕ) : Type 0 where
  pub by_most : time ≤ most
  pub by_each : EachPart (λ i part. time ≤ time_of i part) parts
  pub is_one : (time ≡ most) ⊎ ((i : ℕ) × (i < length parts) × ((x : P) → time ≡ time_of i (slice_index_or parts i x)))

-- at most half of the marks of a store lie before another one that lies up to the least time
pub record HasFewMarks {P : Type 0} (time_of : ℕ → P → ℕ) (most : ℕ) (parts : List P) (s : Stored) : Type 0 where
  pub time : ℕ
  pub least : IsLeastOf time_of most parts time
  pub few : length s.marks ≤ 2 * length (marks_left time s.marks)

-- the changes of one window, retractions first
abbrev pub turns : List ℕ → Moment → Moment → ℕ × Def → List Change
turns key old new w = retractions key old new w ++ emissions key old new w

-- no part has missed anything at a watermark, with this store
abbrev pub AllAhead : {P : Type 0} → (Definitions → ℕ → ℕ → Stored → P → Type 0) → Definitions → ℕ → Stored → List P → Type 0
AllAhead is_ahead d water s parts = EachPart (λ i part. is_ahead d i water s part) parts

module _ {P : Type 0} (stands : Standing P) (d : Definitions) where
  -- there are as many parts as windows, and each stands for what is known of a key, of which the store lacks so many first tuples
  pub record AreStanding (m : Moment) (n : ℕ) (s : Stored) (parts : List P) : Type 0 where
    pub as_many : length parts ≡ length d.windows
    pub each : EachPart (λ i part. stands d i m n s part) parts

  -- the parts stand for a key at a watermark, of which the store holds what may not leave
  pub record AllStandAt (water : ℕ) (s : Stored) (parts : List P) (m : Moment) (n : ℕ) : Type 0 where
    pub water_is : m.water ≡ water
    pub lists : (next : ℕ) × AreLists m next
    pub store : IsStore s
    pub held : IsHeld d m n s
    pub stood : AreStanding m n s parts

  -- a tuple comes to parts that have kept what it changes
  pub record AllTakeTuple (is_asked : Definitions → ℕ → Moment → ℕ → P → Type 0) (water : ℕ) (x : Kept) (after : Stored) (parts : List P) (m : Moment) (n : ℕ) (before : Stored) (more : ℕ) : Type 0 where
    pub water_is : m.water ≡ water
    pub is_water : IsWater water
    pub step : IsPutStep d m n before x more after
    pub stood : AreStanding m n before parts
    pub asked : EachPart (λ i part. is_asked d i m x.time part) parts

  -- a mark comes to the parts
  pub record AllTakeMark (water time : ℕ) (after : Stored) (parts : List P) (m : Moment) (n : ℕ) (before : Stored) : Type 0 where
    pub water_is : m.water ≡ water
    pub is_water : IsWater water
    pub step : IsMarkStep d m n before time after
    pub stood : AreStanding m n before parts

  -- settled slices have left the store
  pub record AllLoseSettled (water time : ℕ) (parts : List P) (m : Moment) (n : ℕ) (before : Stored) (more : ℕ) (after : Stored) : Type 0 where
    pub water_is : m.water ≡ water
    pub purge : IsPurge d m n before time more after
    pub stood : AreStanding m n before parts
