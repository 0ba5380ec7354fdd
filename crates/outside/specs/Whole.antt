-- All that a source gives.
use Rattle.std.specs.Prelude.{ℕ, true, List}
use Rattle.outside.specs.Outside.{Reads}

-- the source of this open gave these bytes, up to its end, and no read of it failed
abbrev pub all_read : ℕ → List ℕ → Reads
all_read place bytes = record { place = place; given = bytes; ended = true; faults = 0 }
