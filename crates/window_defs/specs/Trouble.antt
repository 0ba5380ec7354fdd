-- Which element of the array of windows is refused, told by indexes.
use Rattle.std.specs.Prelude.{◌≡◌, ◌<◌, ℕ, List, Some, Err, IsOk, slice_get}
use Rattle.toml.specs.Data.{Data}
use Rattle.window_defs.specs.declared.defs_fault.DefsFault.{DefsFault}
use Rattle.window_defs.specs.Reading.{window_at}

-- no element before an index is in trouble
abbrev pub AreSoundBefore : ℕ → List Data → Type 0
AreSoundBefore i elements = (k : ℕ) (value : Data) → k < i → slice_get elements k ≡ Some value → IsOk (window_at k value)

-- the fault is that of an element in trouble, and no element before it is in trouble
abbrev pub IsOfFirstInTrouble : List Data → DefsFault → Type 0
IsOfFirstInTrouble elements fault =
    (i : ℕ) × (value : Data) × (slice_get elements i ≡ Some value) × (window_at i value ≡ Err fault) × AreSoundBefore i elements
