-- What an entry says, taken apart. A tuple and a mark have a key and a time; a watermark, the word that a source is idle and its end are words on the progress of the source.
use Rattle.std.specs.Prelude.{◌+◌, ◌&&◌, ℕ, Bool, true, false, List, [], ◌∷◌, Option, None, Some, codes, decimal, if◌then◌else◌, nat_lt, nat_le}
use Rattle.std.specs.Fmt.{signed_decimal}
use Rattle.std.specs.Str.{bytes_eq}
use Rattle.stream_base.specs.Key.{is_key}
use Rattle.stream_base.specs.Limits.{is_value}
use Rattle.stream_base.specs.declared.kept.Kept.{Kept}
use Rattle.stream_base.specs.declared.limits.TheConstants.{TIME_MAX}
use Rattle.stream_base.specs.declared.what.What.{What}
use Rattle.stream_base.specs.declared.what.What.TheVariants.{Tuple, Mark, Water, Idle, End}

-- the key of a tuple or mark
abbrev pub key_in : What → Option (List ℕ)
key_in (Tuple key time value) = Some key
key_in (Mark key time) = Some key
key_in (Water time) = None
key_in Idle = None
key_in End = None

-- a word on the progress of its source
abbrev pub is_progress : What → Bool
is_progress (Tuple key time value) = false
is_progress (Mark key time) = false
is_progress (Water time) = true
is_progress Idle = true
is_progress End = true

-- the word that its source is idle
abbrev pub is_idle_word : What → Bool
is_idle_word (Tuple key time value) = false
is_idle_word (Mark key time) = false
is_idle_word (Water time) = false
is_idle_word Idle = true
is_idle_word End = false

-- the end of its source
abbrev pub is_end : What → Bool
is_end (Tuple key time value) = false
is_end (Mark key time) = false
is_end (Water time) = false
is_end Idle = false
is_end End = true

-- the time of a watermark, and 0 of anything else
abbrev pub water_time : What → ℕ
water_time (Tuple key time value) = 0
water_time (Mark key time) = 0
water_time (Water time) = time
water_time Idle = 0
water_time End = 0

-- a tuple or mark is late where its time plus the lateness is below the watermark
abbrev pub is_late : ℕ → ℕ → What → Bool
is_late lateness water (Tuple key time value) = nat_lt (time + lateness) water
is_late lateness water (Mark key time) = nat_lt (time + lateness) water
is_late lateness water (Water time) = false
is_late lateness water Idle = false
is_late lateness water End = false

-- an entry at a position as a tuple of the key, if it is one
abbrev pub tuple_in : List ℕ → ℕ → What → Option Kept
tuple_in key position (Tuple of time value) = if bytes_eq of key then Some (record { position = position; time = time; value = value }) else None
tuple_in key position (Mark of time) = None
tuple_in key position (Water time) = None
tuple_in key position Idle = None
tuple_in key position End = None

-- an entry as the time of a mark of the key, if it is one
abbrev pub mark_in : List ℕ → What → Option ℕ
mark_in key (Tuple of time value) = None
mark_in key (Mark of time) = if bytes_eq of key then Some time else None
mark_in key (Water time) = None
mark_in key Idle = None
mark_in key End = None

-- time, value and key are within their limits
abbrev pub is_what_within : What → Bool
is_what_within (Tuple key time value) = nat_le time TIME_MAX && (is_value value && is_key key)
is_what_within (Mark key time) = nat_le time TIME_MAX && is_key key
is_what_within (Water time) = nat_le time TIME_MAX
is_what_within Idle = true
is_what_within End = true

-- the fields of its journal line, behind the source
abbrev pub what_fields : What → List (List ℕ)
what_fields (Tuple key time value) = codes "t" ∷ decimal time ∷ signed_decimal value ∷ key ∷ []
what_fields (Mark key time) = codes "m" ∷ decimal time ∷ key ∷ []
what_fields (Water time) = codes "w" ∷ decimal time ∷ []
what_fields Idle = codes "i" ∷ []
what_fields End = codes "e" ∷ []
