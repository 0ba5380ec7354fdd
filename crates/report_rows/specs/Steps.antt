-- What a line makes of what was told before.
use Rattle.std.specs.Prelude.{◌≡◌, Bool, true, false, Option, None, Some, Result, Ok, Err}
use Rattle.stream_base.specs.declared.no_memory.NoMemory.{NoMemory}

-- a line was taken, and this is told with it; or it may not follow, and nothing changes
abbrev pub Takes : {A : Type 0} → Option A → A → A → Bool → Type 0
Takes next old new true = next ≡ Some new
Takes next old new false = (next ≡ None) × (new ≡ old)

-- one of these; or memory ran out, and nothing changes
abbrev pub Steps : {A : Type 0} → Option A → A → A → Result Bool NoMemory → Type 0
Steps next old new (Ok taken) = Takes next old new taken
Steps next old new (Err fault) = new ≡ old
