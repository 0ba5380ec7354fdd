-- How the intervals of a window are told.
use Rattle.std.specs.Prelude.{◌≡◌, ◌+◌, ◌-◌, ◌*◌, ◌/◌, ℕ, List, [], ◌∷◌, Option, None, Some, filter, map, nat_le, nat_lt, if◌then◌else◌}
use Rattle.std.specs.List.{range_with_len}
use Rattle.stream_base.specs.declared.change.Change.{Change}
use Rattle.stream_base.specs.declared.change.Change.TheVariants.{Again, New}
use Rattle.stream_base.specs.declared.former.Former.{Former}
use Rattle.stream_base.specs.declared.func.Func.{Func}
use Rattle.stream_base.specs.declared.kept.Kept.{Kept}
use Rattle.stream_base.specs.declared.row.Row.{Row}
use Rattle.stream_base.specs.Model.Changes.{former_of, row_of}
use Rattle.stream_base.specs.Model.Windows.{Instance, interval, is_selecting, starts_holding}
use Rattle.time_lanes.specs.declared.owner.Owner.{Owner}

-- the starts of the complete intervals that hold a time
abbrev pub complete_starts : ℕ → ℕ → ℕ → ℕ → List ℕ
complete_starts length slide time water =
    filter (λ low. nat_le (low + length) water) (starts_holding length slide time)

-- how many intervals end at or before a watermark
abbrev pub ended : ℕ → ℕ → ℕ → ℕ
ended length slide water = if nat_lt water length then 0 else (water - length) / slide + 1

-- what stood of an instance, if it selects a tuple
abbrev pub former_if : Func → Instance → Option Former
former_if func i = if is_selecting i then Some (former_of func i) else None

-- what stood of an interval of a length, if it held a tuple
abbrev pub former_at : Func → ℕ → List Kept → ℕ → Option Former
former_at func length kept low = former_if func (interval low (low + length) kept)

-- so many multiples of the slide, from one on
abbrev pub starts_from : ℕ → ℕ → ℕ → List ℕ
starts_from slide first count = map (λ k. k * slide) (range_with_len first count)

-- the interval of a length that starts so, told as new
abbrev pub new_at : ℕ → List ℕ → Func → ℕ → List Kept → ℕ → Change
new_at window key func length kept low = New (row_of window key func (interval low (low + length) kept))

-- a row is an update where something stood, and else new
abbrev pub again_or_new : Option Former → Row → Change
again_or_new None row = New row
again_or_new (Some former) row = Again row former

-- the interval of a length that starts so, told with what stood of it
abbrev pub told_at : ℕ → List ℕ → Func → ℕ → List Kept → ℕ → Option Former → Change
told_at window key func length kept low former =
    again_or_new former (row_of window key func (interval low (low + length) kept))

-- each of the intervals told with what stood of it
abbrev pub told_late : (ℕ → Option Former → Change) → List ℕ → List (Option Former) → List Change
told_late told [] formers = []
told_late told (low ∷ lows) [] = []
told_late told (low ∷ lows) (former ∷ formers) = told low former ∷ told_late told lows formers

-- a row is that of an interval, whatever its tuples are, where this is what it shows
abbrev pub ShowsInterval : Owner → ℕ → ℕ → Former → Row → Type 0
ShowsInterval owner low high shown row =
    (kept : List Kept) → shown ≡ former_of owner.func (interval low high kept)
    → row ≡ row_of owner.window owner.key.now owner.func (interval low high kept)
