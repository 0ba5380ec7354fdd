-- What a lane goes on to know where the slices of its store change.
use Rattle.std.specs.Prelude.{◌≡◌, ◌≤◌, ℕ, true, List, [], All}
use Rattle.std.specs.List.{Contains}
use Rattle.stream_base.specs.declared.def.Def.{Def}
use Rattle.stream_base.specs.declared.kind.Kind.{Kind}
use Rattle.stream_base.specs.Kinds.{IsKindWithin, is_timed}
use Rattle.stream_base.specs.Laws.{completions}
use Rattle.stream_base.specs.Model.Changes.{Moment}
use Rattle.slice_lists.specs.Touched.{slices_from}
use Rattle.agg_store.specs.Stored.{IsSliced, IsStore, Stored, tuples_of}
use Rattle.time_lanes.specs.Lane.{IsAsBefore, IsSameUpTo, Laned}
use Rattle.time_lanes.specs.Spans.{IsWindowAt}

-- of each window with intervals, and each store before and after something comes, that before is sliced for all windows
abbrev pub WhereComes : (X : Type 0) → (List Def → Kind → Stored → Stored → X → Type 0) → Type 0
WhereComes X Holds =
    (windows : List Def) (window : ℕ) (def : Def) (old new : Stored) (x : X)
    → All (λ w. IsKindWithin w.kind) windows → IsWindowAt windows window def
    → is_timed def.kind ≡ true → IsStore old → IsSliced windows old → Holds windows def.kind old new x

-- of each store before and after its slices change from a time on alone, at each watermark
abbrev pub WhereSameUpTo : ℕ → (Kind → ℕ → Stored → Stored → Type 0) → Type 0
WhereSameUpTo time Holds =
    (kind : Kind) (water : ℕ) (old new : Stored) → IsSameUpTo kind time old new → Holds kind water old new

-- what holds of a lane over its slices goes on to hold where they change from the watermark on alone
abbrev pub LastsAhead : (M : Type 0) → (Kind → ℕ → Stored → Laned M → Type 0) → Type 0
LastsAhead M Holds =
    (kind : Kind) (water time : ℕ) (old new : Stored) (lane : Laned M) → IsSameUpTo kind time old new
    → water ≤ time → Holds kind water old lane → Holds kind water new lane

-- of each lane, and each store before and after the slices up to a time are dropped
abbrev pub WherePurged : (M : Type 0) → (Kind → ℕ → ℕ → Stored → Stored → Laned M → Type 0) → Type 0
WherePurged M Holds =
    (kind : Kind) (water time : ℕ) (old new : Stored) (lane : Laned M)
    → new.slices ≡ slices_from time old.slices → Holds kind water time old new lane

-- what holds of a lane over its slices goes on to hold where those up to a time are dropped
abbrev pub LastsPurged : (M : Type 0) → (Kind → ℕ → Stored → Laned M → Type 0) → Type 0
LastsPurged M Holds =
    WherePurged M (λ kind water time old new lane. Holds kind water old lane → Holds kind water new lane)

-- what holds of a lane goes on to hold where only its room differs
abbrev pub LastsWithRoom : (M : Type 0) → (Kind → ℕ → Stored → Laned M → Type 0) → Type 0
LastsWithRoom M Holds =
    (kind : Kind) (water : ℕ) (s : Stored) (old new : Laned M) → IsAsBefore old new
    → Holds kind water s old → Holds kind water s new

-- of each lane of a window with intervals, where a move of the watermark completes none of them over a store of the key's tuples
abbrev pub WhereNothingCompletes : (M : Type 0) → (Kind → Stored → ℕ → ℕ → Laned M → Type 0) → Type 0
WhereNothingCompletes M Holds =
    (window : ℕ) (def : Def) (key : List ℕ) (m : Moment) (new : ℕ) (s : Stored) (lane : Laned M)
    → is_timed def.kind ≡ true → IsKindWithin def.kind → IsStore s
    → All (Contains m.kept) (tuples_of s) → m.water ≤ new
    → completions key m new (window, def) ≡ [] → Holds def.kind s m.water new lane
