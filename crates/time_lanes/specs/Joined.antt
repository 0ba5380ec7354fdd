-- What an interval shows with one tuple more, where the order of values makes no difference.
use Rattle.std.specs.Prelude.{◌+◌, ◌%◌, ◌^◌, ℕ, ℤ, pos, Bool, true, false, List, [], ◌∷◌, Option, None, Some}
use Rattle.std.specs.Int.{int_max, int_min, int_wrapping_add, w128}
use Rattle.stream_base.specs.declared.change.Change.{Change}
use Rattle.stream_base.specs.declared.change.Change.TheVariants.{Again, New}
use Rattle.stream_base.specs.declared.former.Former.{Former}
use Rattle.stream_base.specs.declared.func.Func.{Func}
use Rattle.stream_base.specs.declared.func.Func.TheVariants.{Count, First, Last, Max, Mean, Min, Rises, Sum, Trace}
use Rattle.stream_base.specs.declared.shown.Shown.{Shown}
use Rattle.stream_base.specs.declared.shown.Shown.TheVariants.{Ratio, Whole}
use Rattle.stream_base.specs.Model.Functions.{shown_of}

-- whether a function shows the same of values in any order
abbrev pub is_order_free : Func → Bool
is_order_free Count = true
is_order_free Sum = true
is_order_free Min = true
is_order_free Max = true
is_order_free Mean = true
is_order_free First = false
is_order_free Last = false
is_order_free Rises = false
is_order_free Trace = false

-- a sum shown with one value more
abbrev pub sum_with : ℤ → Shown → Shown
sum_with v (Whole sum) = Whole (int_wrapping_add w128 sum v)
sum_with v (Ratio sum count) = Ratio sum count

abbrev pub least_with : ℤ → Shown → Shown
least_with v (Whole least) = Whole (int_min least v)
least_with v (Ratio sum count) = Ratio sum count

abbrev pub greatest_with : ℤ → Shown → Shown
greatest_with v (Whole greatest) = Whole (int_max greatest v)
greatest_with v (Ratio sum count) = Ratio sum count

-- a mean shown with one value more, of so many then
abbrev pub mean_with : ℕ → ℤ → Shown → Shown
mean_with number v (Whole sum) = Whole sum
mean_with number v (Ratio sum count) = Ratio (int_wrapping_add w128 sum v) number

-- what is shown with one value more, of so many then, where the order makes no difference
abbrev pub shown_with : Func → ℕ → ℤ → Shown → Shown
shown_with Count number v shown = Whole (pos number)
shown_with Sum number v shown = sum_with v shown
shown_with Min number v shown = least_with v shown
shown_with Max number v shown = greatest_with v shown
shown_with Mean number v shown = mean_with number v shown
shown_with First number v shown = shown
shown_with Last number v shown = shown
shown_with Rises number v shown = shown
shown_with Trace number v shown = shown

-- an interval told with a value more than stood of it
abbrev pub joined_change : ℕ → List ℕ → Func → ℕ → ℕ → ℤ → Option Former → Change
joined_change window key func low high v None =
    New (record { window = window; key = key; low = low; high = high; number = 1; shown = shown_of func (v ∷ []) })
joined_change window key func low high v (Some former) =
    Again (record {
      window = window;
      key = key;
      low = low;
      high = high;
      number = (former.number + 1) % 2 ^ 64;
      shown = shown_with func ((former.number + 1) % 2 ^ 64) v former.shown;
    }) former

-- the same of the interval of a length that starts so
abbrev pub joined_at : ℕ → List ℕ → Func → ℕ → ℤ → ℕ → Option Former → Change
joined_at window key func length v low former = joined_change window key func low (low + length) v former
