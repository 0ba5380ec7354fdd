-- Changes whose numbers fit their fields.
use Rattle.std.specs.Prelude.{◌&&◌, ◌^◌, ℤ, pos, negsuc, Bool, true, nat_lt}
use Rattle.stream_base.specs.declared.change.Change.{Change}
use Rattle.stream_base.specs.declared.change.Change.TheVariants.{Gone, New, Again, Dropped}
use Rattle.stream_base.specs.declared.former.Former.{Former}
use Rattle.stream_base.specs.declared.row.Row.{Row}
use Rattle.stream_base.specs.declared.shown.Shown.{Shown}
use Rattle.stream_base.specs.declared.shown.Shown.TheVariants.{Whole, Ratio}
use Rattle.stream_base.specs.Key.{is_key}

-- a signed number of 128 bits
abbrev pub is_wide : ℤ → Bool
is_wide (pos n) = nat_lt n (2 ^ 127)
is_wide (negsuc n) = nat_lt n (2 ^ 127)

-- a value is such a number, or one over a count of 64 bits
abbrev pub is_shown_fit : Shown → Bool
is_shown_fit (Whole number) = is_wide number
is_shown_fit (Ratio sum count) = is_wide sum && nat_lt count (2 ^ 64)

-- a row's key is a key, its window a number of 32 bits, its start, end and number are of 64, and its value fits
abbrev pub is_row_fit : Row → Bool
is_row_fit row =
    is_key row.key && (nat_lt row.window (2 ^ 32) && (nat_lt row.low (2 ^ 64) && (nat_lt row.high (2 ^ 64) && (nat_lt row.number (2 ^ 64) && is_shown_fit row.shown))))

abbrev pub is_former_fit : Former → Bool
is_former_fit former = nat_lt former.number (2 ^ 64) && is_shown_fit former.shown

-- so do the row of a change, and what stood before
abbrev pub is_change_fit : Change → Bool
is_change_fit (Gone row) = is_row_fit row
is_change_fit (New row) = is_row_fit row
is_change_fit (Again row former) = is_row_fit row && is_former_fit former
is_change_fit Dropped = true
