-- What a key is.
use Rattle.std.specs.Prelude.{◌≡◌, ◌≤◌, ◌==◌, ◌||◌, ◌&&◌, ◌++◌, ◌-◌, ℕ, Bool, false, List, length, replicate, Option, None, Some, is_none, if◌then◌else◌, nat_lt, nat_le}
use Rattle.std.specs.List.{list_any}
use Rattle.stream_base.specs.declared.key_text.KeyFault.{KeyFault}
use Rattle.stream_base.specs.declared.key_text.KeyFault.TheVariants.{Length, Control}

-- a control character: below 0x20, or 0x7F
abbrev pub is_control : ℕ → Bool
is_control byte = nat_lt byte 32 || (byte == 127)

-- why bytes are no key, if they are none: first their length, then a control character
abbrev pub key_fault : List ℕ → Option KeyFault
key_fault bytes =
    if nat_le 1 (length bytes) && nat_le (length bytes) 64
    then (if list_any is_control bytes then Some Control else None)
    else Some Length

-- the bytes are a key: as a test, and as facts
abbrev pub is_key : List ℕ → Bool
is_key bytes = is_none (key_fault bytes)

pub record IsKey (bytes : List ℕ) : Type 0 where
  pub nonempty : 1 ≤ length bytes
  pub short : length bytes ≤ 64
  pub plain : list_any is_control bytes ≡ false

-- the bytes, and zeros up to 64
abbrev pub zero_padded : List ℕ → List ℕ
zero_padded bytes = bytes ++ replicate (64 - length bytes) 0
