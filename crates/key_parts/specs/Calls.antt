-- What a part of a key meets at each call: for which lists it stands, and what became of the store.
use Rattle.std.specs.Prelude.{◌≡◌, ◌≤◌, ℕ, Result, IfOk, OnOk}
use Rattle.std.specs.List.{slice_index_or}
use Rattle.stream_base.specs.Limits.{Definitions}
use Rattle.stream_base.specs.declared.def.Def.{Def}
use Rattle.stream_base.specs.declared.func.Func.TheVariants.{Count}
use Rattle.stream_base.specs.declared.kept.Kept.{Kept}
use Rattle.stream_base.specs.declared.kind.Kind.{Kind}
use Rattle.stream_base.specs.declared.kind.Kind.TheVariants.{Marks}
use Rattle.stream_base.specs.declared.limits.TheConstants.{TIME_MAX}
use Rattle.stream_base.specs.Model.Changes.{Moment}
use Rattle.stream_base.specs.Model.Moments.{IsWater}
use Rattle.agg_store.specs.Stored.{IsStore, Stored}
use Rattle.key_windows.specs.Calls.{LeadsOn}
use Rattle.key_parts.specs.Held.{IsHeld}
use Rattle.key_parts.specs.Moves.{AreLists, IsMarkStep, IsPurge, IsPutStep}

-- the window at a place of the definitions
abbrev pub window_at : Definitions → ℕ → Def
window_at d window = slice_index_or d.windows window (record { kind = Marks; func = Count })

-- the kind of the window at a place
abbrev pub window_kind : Definitions → ℕ → Kind
window_kind d window = (window_at d window).kind

-- for the window at a place a part stands for what is known of a key, of which the store lacks so many first tuples
abbrev pub Standing : Type 0 → Type 1
Standing P = Definitions → ℕ → Moment → ℕ → Stored → P → Type 0

module _ {P : Type 0} (stands : Standing P) (d : Definitions) (window : ℕ) where
  -- a part stands for a key at a watermark, of which the store holds what may not leave
  pub record StandsAt (water : ℕ) (s : Stored) (part : P) (m : Moment) (n : ℕ) : Type 0 where
    pub water_is : m.water ≡ water
    pub lists : (next : ℕ) × AreLists m next
    pub store : IsStore s
    pub held : IsHeld d m n s
    pub stood : stands d window m n s part

  -- a tuple comes to a part that has kept what the tuple changes
  pub record TakesTuple (is_asked : Definitions → ℕ → Moment → ℕ → P → Type 0) (water : ℕ) (x : Kept) (after : Stored) (part : P) (m : Moment) (n : ℕ) (before : Stored) (more : ℕ) : Type 0 where
    pub water_is : m.water ≡ water
    pub is_water : IsWater water
    pub step : IsPutStep d m n before x more after
    pub stood : stands d window m n before part
    pub asked : is_asked d window m x.time part

  -- a mark comes to a part
  pub record TakesMark (water time : ℕ) (after : Stored) (part : P) (m : Moment) (n : ℕ) (before : Stored) : Type 0 where
    pub water_is : m.water ≡ water
    pub is_water : IsWater water
    pub step : IsMarkStep d m n before time after
    pub stood : stands d window m n before part

  -- settled slices have left the store
  pub record LosesSettled (water time : ℕ) (part : P) (m : Moment) (n : ℕ) (before : Stored) (more : ℕ) (after : Stored) : Type 0 where
    pub water_is : m.water ≡ water
    pub purge : IsPurge d m n before time more after
    pub stood : stands d window m n before part

-- at a watermark, with this store, a part stands for what is known of a key, of which the store lacks so many first tuples
abbrev pub StandingAt : Type 0 → Type 1
StandingAt P = ℕ → Stored → P → Moment → ℕ → Type 0

module _ {P : Type 0} (at : StandingAt P) where
  -- a part stands for some key under a watermark, with this store
  pub record StandsForSome (water : ℕ) (s : Stored) (part : P) : Type 0 where
    pub is_water : IsWater water
    pub key : (m : Moment) × (n : ℕ) × at water s part m n

  -- a tuple or a mark within the limits may come to a part that stands for some key under a watermark
  pub record MayCome (time water : ℕ) (s : Stored) (part : P) : Type 0 where
    pub within : time ≤ TIME_MAX
    pub under : StandsForSome water s part

  -- the watermark may move on under a part that stands for some key
  pub record MayMove (old new : ℕ) (s : Stored) (part : P) : Type 0 where
    pub leads_on : LeadsOn old new
    pub under : StandsForSome old s part

  -- a part may be asked about tuples at a time: it stands for some key, under whatever watermark
  pub record MayTell (time : ℕ) (part : P) : Type 0 where
    pub within : time ≤ TIME_MAX
    pub key : (m : Moment) × (n : ℕ) × (s : Stored) × (w : ℕ) × at w s part m n

  -- a part stands for some key, under a watermark that may lead on to this one
  abbrev pub MayLeadTo : ℕ → P → Type 0
  MayLeadTo water part = (m : Moment) × (n : ℕ) × (s : Stored) × (w : ℕ) × at w s part m n × LeadsOn w water

-- a part stands for all that it stood for
abbrev pub StandsAsBefore : {P : Type 0} → (Moment → ℕ → Stored → P → Type 0) → P → P → Type 0
StandsAsBefore stands old new = (m : Moment) (n : ℕ) (s : Stored) → stands m n s old → stands m n s new

-- a part stands for all that it stood for under a watermark
abbrev pub StandsOnUnder : {P : Type 0} → (Moment → ℕ → Stored → P → Type 0) → ℕ → P → P → Type 0
StandsOnUnder stands water old new = (m : Moment) (n : ℕ) (s : Stored) → m.water ≡ water → stands m n s old → stands m n s new

-- a part has missed nothing that it hadn't
abbrev pub MissesNoMore : {P : Type 0} → (ℕ → Stored → P → Type 0) → P → P → Type 0
MissesNoMore is_ahead old new = (w : ℕ) (s : Stored) → is_ahead w s old → is_ahead w s new

-- a call makes room and no more: where it doesn't fail the part is ready for the call to come, and it answers for how many changes. The part stands for all that it stood for, has missed nothing that it hadn't, and gains no credit
pub record Prepares {P E : Type 0} (stands : Moment → ℕ → Stored → P → Type 0) (is_ahead : ℕ → Stored → P → Type 0) (credit_of : P → ℕ) (is_ready : P → Type 0) (room_for : P → ℕ) (old new : P) (answer : Result ℕ E) : Type 0 where
  pub stays : StandsAsBefore stands old new
  pub ready : OnOk answer (is_ready new)
  pub room : IfOk answer (λ k. k ≡ room_for new)
  pub credit : credit_of new ≤ credit_of old
  pub ahead : MissesNoMore is_ahead old new
