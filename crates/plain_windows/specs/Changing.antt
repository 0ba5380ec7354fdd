-- What becomes of one instance from one moment to the next, and the bounds that lie ahead.
use Rattle.std.specs.Prelude.{◌==◌, ◌≡◌, ◌⊎◌, ◌≤◌, ◌<◌, ◌&&◌, ℕ, Bool, List, map, filter, min, nat_lt}
use Rattle.std.specs.List.{Contains, enumerate_from, flat_map}
use Rattle.std.specs.Option.{option_to_list}
use Rattle.stream_base.specs.declared.change.Change.{Change}
use Rattle.stream_base.specs.declared.def.Def.{Def}
use Rattle.stream_base.specs.declared.kept.Kept.{Kept}
use Rattle.stream_base.specs.declared.kind.Kind.{Kind}
use Rattle.stream_base.specs.declared.limits.TheConstants.{FINAL}
use Rattle.stream_base.specs.Laws.{completions}
use Rattle.stream_base.specs.Model.Changes.{Moment, emission, emissions, retraction, retractions, standing_at}
use Rattle.stream_base.specs.Model.Journal.{put_in_order}
use Rattle.stream_base.specs.Model.Windows.{Instance, instances_of, spans}
use Rattle.plain_windows.specs.declared.extent.Extent.{Extent}
use Rattle.plain_windows.specs.declared.fold.Owner.{Owner}

-- a window with its place among the definitions
abbrev pub window_of : Owner → ℕ × Def
window_of owner = (owner.place, owner.window)

-- an instance starts and ends as an extent does
abbrev pub is_over : Extent → Instance → Bool
is_over e i = (e.low == i.low) && (e.high == i.high)

-- the retraction of an instance that stood, if it stands no longer
abbrev pub gone_of : List ℕ → Moment → ℕ × Def → Instance → List Change
gone_of key new (window, def) i = option_to_list (retraction window key def.func (standing_at def new) i)

-- the emission or update of an instance that stands, if it is new or selects other tuples
abbrev pub come_of : List ℕ → Moment → ℕ × Def → Instance → List Change
come_of key old (window, def) i = option_to_list (emission window key def.func (standing_at def old) i)

-- the retractions of all windows of a key from one moment to the next, the emissions and updates, and what a move of the watermark completes
abbrev pub all_retractions : List Def → List ℕ → Moment → Moment → List Change
all_retractions windows key old new = flat_map (retractions key old new) (enumerate_from 0 windows)

abbrev pub all_emissions : List Def → List ℕ → Moment → Moment → List Change
all_emissions windows key old new = flat_map (emissions key old new) (enumerate_from 0 windows)

abbrev pub all_completions : List Def → List ℕ → Moment → ℕ → List Change
all_completions windows key m new = flat_map (completions key m new) (enumerate_from 0 windows)

-- one of the instances has this bound
abbrev pub HasBound : List Instance → ℕ → Type 0
HasBound instances bound = (j : Instance) × Contains instances j × (j.bound ≡ bound)

-- no instance of the windows has a bound above the watermark and below a due number
abbrev pub IsAhead : List Def → List Kept → List ℕ → ℕ → ℕ → Type 0
IsAhead windows kept marks water due = (def : Def) (i : Instance) → Contains windows def → Contains (instances_of def.kind kept marks) i → water < i.bound → due ≤ i.bound

-- some instance of some window has this bound
pub record IsBound (windows : List Def) (kept : List Kept) (marks : List ℕ) (bound : ℕ) : Type 0 where
  pub def : Def
  pub of_window : Contains windows def
  pub has : HasBound (instances_of def.kind kept marks) bound

-- the least bound above the watermark: none lies between, and up to the final watermark it is the bound of an instance. Later than that where no bound is left
pub record IsDue (windows : List Def) (kept : List Kept) (marks : List ℕ) (water due : ℕ) : Type 0 where
  pub ahead : IsAhead windows kept marks water due
  pub reached : due ≤ FINAL → (water < due) × IsBound windows kept marks due

-- with a tuple more at a time, each bound of a window's instances is one that there was, or at least this number
abbrev pub BringsNoneBelow : Kind → ℕ → ℕ → Type 0
BringsNoneBelow kind time bound = (kept : List Kept) (marks : List ℕ) (x : Kept) (i : Instance) → x.time ≡ time → Contains (instances_of kind (put_in_order kept x) marks) i
    → HasBound (instances_of kind kept marks) i.bound ⊎ (bound ≤ i.bound)

-- with a tuple more at a time, an instance of the window has this bound, which lies after the time
pub record BringsBound (kind : Kind) (time bound : ℕ) : Type 0 where
  pub later : time < bound
  pub brought : (kept : List Kept) (marks : List ℕ) (x : Kept) → x.time ≡ time → HasBound (instances_of kind (put_in_order kept x) marks) bound

-- with a tuple more at a time, each bound of the intervals of this length and slide is one that there was, or at least this number
abbrev pub SpansBringNoneBelow : ℕ → ℕ → ℕ → ℕ → Type 0
SpansBringNoneBelow length slide time bound = (kept : List Kept) (x : Kept) (i : Instance) → x.time ≡ time → Contains (spans length slide (put_in_order kept x)) i → HasBound (spans length slide kept) i.bound ⊎ (bound ≤ i.bound)

-- with a tuple more at a time, whatever the lists, no bound lies between the watermark and the less of this number and a number for which that held before
abbrev pub KeepsAhead : List Def → ℕ → ℕ → Type 0
KeepsAhead windows time bound = (kept : List Kept) (marks : List ℕ) (x : Kept) (water due : ℕ) → x.time ≡ time → IsAhead windows kept marks water due → IsAhead windows (put_in_order kept x) marks water (min due bound)

-- and the less of this number and the least bound of before is the least bound, where the tuple comes after the watermark
abbrev pub KeepsDue : List Def → ℕ → ℕ → Type 0
KeepsDue windows time bound = (kept : List Kept) (marks : List ℕ) (x : Kept) (water due : ℕ) → x.time ≡ time → water < time → IsDue windows kept marks water due → IsDue windows (put_in_order kept x) marks water (min due bound)

-- with a tuple more, each bound of the window's instances is still one
abbrev pub KeepsBounds : Kind → Type 0
KeepsBounds kind = (kept : List Kept) (marks : List ℕ) (x : Kept) (i : Instance) → Contains (instances_of kind kept marks) i → HasBound (instances_of kind (put_in_order kept x) marks) i.bound

-- the bounds of a window's instances that lie above the watermark
abbrev pub bounds_ahead : Moment → Def → List ℕ
bounds_ahead m def = filter (λ bound. nat_lt m.water bound) (map (λ i. i.bound) (instances_of def.kind m.kept m.marks))
