-- The nine aggregate functions.
use Rattle.std.specs.Prelude.{◌+◌, ◌*◌, ◌%◌, ◌^◌, ℕ, ℤ, pos, List, Option, None, Some, fold, unwrap_or, int_lt, if◌then◌else◌}
use Rattle.std.specs.Int.{int_wrapping_add, int_min, int_max, cast_unsigned, w64, w128}
use Rattle.stream_base.specs.declared.func.Func.{Func}
use Rattle.stream_base.specs.declared.func.Func.TheVariants.{Count, Sum, Min, Max, Mean, First, Last, Rises, Trace}
use Rattle.stream_base.specs.declared.shown.Shown.{Shown}
use Rattle.stream_base.specs.declared.shown.Shown.TheVariants.{Whole, Ratio}

-- an aggregate function: what it has of no value, what one value gives, how two results in event order become one, and how a result is shown
pub record Aggregate (A : Type 0) : Type 0 where
  pub unit : A
  pub lift : ℤ → A
  pub combine : A → A → A
  pub show : A → Shown

-- a sum of counts, modulo 2^64
abbrev pub count_sum : ℕ → ℕ → ℕ
count_sum m n = (m + n) % 2 ^ 64

-- two results joined, or the one that is there
abbrev pub either_or : {A : Type 0} → (A → A → A) → Option A → Option A → Option A
either_or join None y = y
either_or join (Some x) None = Some x
either_or join (Some x) (Some y) = Some (join x y)

-- a value that is there, shown
abbrev pub show_value : Option ℤ → Shown
show_value o = Whole (unwrap_or o (pos 0))

-- how many values there are
abbrev pub counting : Aggregate ℕ
counting = record { unit = 0; lift = λ v. 1; combine = count_sum; show = λ n. Whole (pos n) }

-- the sum of the values, as a signed number of 128 bits
abbrev pub summing : Aggregate ℤ
summing = record { unit = pos 0; lift = λ v. v; combine = int_wrapping_add w128; show = λ z. Whole z }

-- the least value
abbrev pub least : Aggregate (Option ℤ)
least = record { unit = None; lift = λ v. Some v; combine = either_or int_min; show = show_value }

-- the greatest value
abbrev pub greatest : Aggregate (Option ℤ)
greatest = record { unit = None; lift = λ v. Some v; combine = either_or int_max; show = show_value }

-- the sum and the count of the values
abbrev pub averaging : Aggregate (ℤ × ℕ)
averaging = record {
  unit = (pos 0, 0);
  lift = λ v. (v, 1);
  combine = λ x y. (int_wrapping_add w128 x.0 y.0, count_sum x.1 y.1);
  show = λ m. Ratio m.0 m.1;
}

-- the first value in event order
abbrev pub earliest : Aggregate (Option ℤ)
earliest = record { unit = None; lift = λ v. Some v; combine = either_or (λ x y. x); show = show_value }

-- the last value in event order
abbrev pub latest : Aggregate (Option ℤ)
latest = record { unit = None; lift = λ v. Some v; combine = either_or (λ x y. y); show = show_value }

-- two runs of values, each with its first value, its last and its rises: there is one rise more where the second begins above the end of the first
abbrev pub joined_runs : ℤ × ℤ × ℕ → ℤ × ℤ × ℕ → ℤ × ℤ × ℕ
joined_runs x y = (x.0, y.1, count_sum (count_sum x.2 y.2) (if int_lt x.1 y.0 then 1 else 0))

-- how often a value is greater than the one before it
abbrev pub rising : Aggregate (Option (ℤ × ℤ × ℕ))
rising = record {
  unit = None;
  lift = λ v. Some (v, v, 0);
  combine = either_or joined_runs;
  show = λ o. Whole (pos ((unwrap_or o (pos 0, pos 0, 0)).2));
}

-- the function that takes n to a * n + b, modulo 2^64: a value v stands for the one with a = 1099511628211 and b = v, and what is shown is the composition's value at 0
abbrev pub tracing : Aggregate (ℕ × ℕ)
tracing = record {
  unit = (1, 0);
  lift = λ v. (1099511628211, cast_unsigned w64 v);
  combine = λ x y. ((x.0 * y.0) % 2 ^ 64, (x.1 * y.0 + y.1) % 2 ^ 64);
  show = λ t. Whole (pos t.1);
}

-- the left fold of the function over the lifts of the values, from the unit
abbrev pub fold_of : {A : Type 0} → Aggregate A → List ℤ → A
fold_of f values = fold (λ so_far v. f.combine so_far (f.lift v)) f.unit values

-- what a function shows of values in event order
abbrev pub shown_of : Func → List ℤ → Shown
shown_of Count values = counting.show (fold_of counting values)
shown_of Sum values = summing.show (fold_of summing values)
shown_of Min values = least.show (fold_of least values)
shown_of Max values = greatest.show (fold_of greatest values)
shown_of Mean values = averaging.show (fold_of averaging values)
shown_of First values = earliest.show (fold_of earliest values)
shown_of Last values = latest.show (fold_of latest values)
shown_of Rises values = rising.show (fold_of rising values)
shown_of Trace values = tracing.show (fold_of tracing values)
