-- The limits of values and of window definitions.
use Rattle.std.specs.Prelude.{◌≡◌, ◌≤◌, ◌-◌, ◌^◌, ◌&&◌, ℕ, ℤ, pos, negsuc, Bool, not, List, length, Option, None, Some, if◌then◌else◌, nat_le, int_le, All}
use Rattle.std.specs.List.{position}
use Rattle.std.specs.Option.{option_map}
use Rattle.stream_base.specs.Kinds.{IsKindWithin, is_from_one_to, is_kind_within}
use Rattle.stream_base.specs.declared.limits.TheConstants.{TIME_MAX, EVERY_MAX, WINDOWS_MAX}
use Rattle.stream_base.specs.declared.def.Def.{Def}
use Rattle.stream_base.specs.declared.defs.LimitFault.{LimitFault}
use Rattle.stream_base.specs.declared.defs.LimitFault.TheVariants.{Many, Limit}

-- a value is a signed number of 64 bits
abbrev pub is_value : ℤ → Bool
is_value value = int_le (negsuc (2 ^ 63 - 1)) value && int_le value (pos (2 ^ 63 - 1))

-- what a `Defs` is in contracts: its windows, in order, and its three numbers
pub record Definitions : Type 0 where
  pub windows : List Def
  pub lateness : ℕ
  pub every : ℕ
  pub disorder : ℕ

abbrev pub definitions_of : List Def → ℕ → ℕ → ℕ → Definitions
definitions_of windows lateness every disorder =
    record { windows = windows; lateness = lateness; every = every; disorder = disorder }

-- a window whose numbers are beyond their limits
abbrev pub is_beyond : Def → Bool
is_beyond w = not (is_kind_within w.kind)

-- lateness, every and disorder are within their limits
abbrev pub are_numbers_within : Definitions → Bool
are_numbers_within d = nat_le d.lateness TIME_MAX && (nat_le d.every EVERY_MAX && nat_le d.disorder TIME_MAX)

-- the first limit that the definitions pass, if they pass one: their number, then the three numbers, then the first window beyond its limits
abbrev pub limit_fault : Definitions → Option LimitFault
limit_fault d =
    if is_from_one_to WINDOWS_MAX (length d.windows)
    then (if are_numbers_within d
    then option_map (λ i. Limit (Some i)) (position is_beyond d.windows)
    else Some (Limit None))
    else Some Many

pub record AreWithinLimits (d : Definitions) : Type 0 where
  pub some_window : 1 ≤ length d.windows
  pub few_windows : length d.windows ≤ WINDOWS_MAX
  pub kinds : All (λ w. IsKindWithin w.kind) d.windows
  pub lateness : d.lateness ≤ TIME_MAX
  pub every : d.every ≤ EVERY_MAX
  pub disorder : d.disorder ≤ TIME_MAX

-- these are the windows of definitions, which lie within the limits
pub record AreWindowsOf (d : Definitions) (windows : List Def) : Type 0 where
  pub value : windows ≡ d.windows
  pub limits : AreWithinLimits d

-- two times in their order, both within the limit
pub record AreTimes (low high : ℕ) : Type 0 where
  pub ordered : low ≤ high
  pub in_time : high ≤ TIME_MAX

-- windows within their limits, and two such times between which they may cut
pub record MayCut (windows : List Def) (low high : ℕ) : Type 0 where
  pub kinds : All (λ w. IsKindWithin w.kind) windows
  pub times : AreTimes low high
