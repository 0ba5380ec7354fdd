-- What is held of a part while it is written.
use Rattle.std.specs.Prelude.{◌≡◌, ◌≤◌, ◌<◌, ℕ, List, length, Option, None, Some}
use Rattle.source_feed.specs.declared.whole.TheConstants.{SOURCE_MAX}

-- what is held of bytes: all of them, or nothing where they are more than a source may have
abbrev pub IsHeld : List ℕ → Option (List ℕ) → Type 0
IsHeld bytes (Some held) = (held ≡ bytes) × (length bytes ≤ SOURCE_MAX)
IsHeld bytes None = SOURCE_MAX < length bytes
