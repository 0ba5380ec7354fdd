-- The instances of a window, whole.
use Rattle.std.specs.Prelude.{◌≡◌, ℕ, List, map, filter, nat_lt}
use Rattle.stream_base.specs.declared.kept.Kept.{Kept}
use Rattle.stream_base.specs.Laws.{becomes_complete}
use Rattle.stream_base.specs.Model.Windows.{Instance}

-- a function that gives a tuple of the same time for each
abbrev pub KeepsTimes : (Kept → Kept) → Type 0
KeepsTimes r = (x : Kept) → (r x).time ≡ x.time

-- the instance with a function applied to each tuple that it selects
abbrev pub with_each : (Kept → Kept) → Instance → Instance
with_each r i = record { low = i.low; high = i.high; bound = i.bound; chosen = map r i.chosen }

-- the instances that are not complete at a watermark
abbrev pub incomplete : ℕ → List Instance → List Instance
incomplete water instances = filter (λ i. nat_lt water i.bound) instances

-- the instances that become complete from one watermark to another
abbrev pub completed : ℕ → ℕ → List Instance → List Instance
completed old new instances = filter (becomes_complete old new) instances
