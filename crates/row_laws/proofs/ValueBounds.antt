-- What a function shows of values of 64 bits fits.
use Rattle.std.proofs.Common.{◌≡◌, ℕ, ◌+◌, ◌%◌, ◌^◌, ◌<◌, Bool, true, false, cond, List, [], ◌∷◌, fold, Option, None, Some, arith, rules, Fits}
use Rattle.std.specs.Prelude.{ℤ, pos, negsuc, FitsSigned, int_lt, nat_lt}
use Rattle.std.proofs.lemmas.Bool.{and_from, lt-ltb}
use Rattle.std.specs.Int.{cast_signed, cast_unsigned, w64, w128}
use Rattle.std.specs.List.{AllByRecursion}
use Rattle.std.proofs.Math.Facts.{sfits_to_z}
use Rattle.stream_base.specs.declared.func.Func.{Func}
use Rattle.stream_base.specs.declared.func.Func.TheVariants.{Count, Sum, Min, Max, Mean, First, Last, Rises, Trace}
use Rattle.stream_base.specs.declared.shown.Shown.{Shown}
use Rattle.stream_base.specs.declared.shown.Shown.TheVariants.{Whole, Ratio}
use Rattle.stream_base.specs.Model.Functions.{Aggregate, averaging, count_sum, counting, earliest, fold_of, greatest, latest, least, rising, shown_of, show_value, summing, tracing}
use Rattle.row_laws.specs.Fitting.{is_shown_fit, is_wide}

abbrev pub IsWide : ℤ → Type 0
IsWide z = FitsSigned w128 z

widened : (v : ℤ) → FitsSigned w64 v → IsWide v
widened v h = search rules

fit_wide : (z : ℤ) → IsWide z → is_wide z ≡ true
fit_wide (pos n) h = lt-ltb n (2 ^ 127) (omega (arith, h.sfits))
fit_wide (negsuc n) h = lt-ltb n (2 ^ 127) (omega (arith, h.sfits))

wrapped : (n : ℕ) → IsWide (cast_signed w128 (n % 2 ^ 128))
wrapped n = let h : Fits w128 (n % 2 ^ 128) = omega arith in sfits_to_z {w = w128} h

zero_wide : IsWide (pos 0)
zero_wide = search rules

count_wide : (n : ℕ) → n < 2 ^ 64 → IsWide (pos n)
count_wide n h = record { sfits = omega (arith, h) }

-- a value is a signed number of 128 bits, or one over a count of 64
abbrev pub FitsShown : Shown → Type 0
FitsShown (Whole number) = IsWide number
FitsShown (Ratio sum count) = IsWide sum × (count < 2 ^ 64)

pub shown_is_fit : (shown : Shown) → FitsShown shown → is_shown_fit shown ≡ true
shown_is_fit (Whole z) h = fit_wide z h
shown_is_fit (Ratio z n) h = and_from (is_wide z) (nat_lt n (2 ^ 64)) (fit_wide z h.0) (lt-ltb n (2 ^ 64) h.1)

-- a fold keeps what each step keeps
kept_up : {A : Type 0} (f : Aggregate A) (P : A → Type 0) (Q : ℤ → Type 0) → ((a : A) (v : ℤ) → P a → Q v → P (f.combine a (f.lift v))) → (values : List ℤ) (a : A) → P a → AllByRecursion Q values → P (fold (λ so_far v. f.combine so_far (f.lift v)) a values)
kept_up f P Q step [] a p h = p
kept_up f P Q step (v ∷ values) a p h = kept_up f P Q step values (f.combine a (f.lift v)) (step a v p h.0) h.1

abbrev IsPick : Option ℤ → Type 0
IsPick None = Unit {0}
IsPick (Some z) = IsWide z

pick_short : (o : Option ℤ) → IsPick o → FitsShown (show_value o)
pick_short None h = zero_wide
pick_short (Some z) h = h

either_wide : (b : Bool) (x y : ℤ) → IsWide x → IsWide y → IsWide (cond b x y)
either_wide true x y h g = h
either_wide false x y h g = g

least_kept : (o : Option ℤ) (v : ℤ) → IsPick o → IsWide v → IsPick (least.combine o (least.lift v))
least_kept None v h g = g
least_kept (Some x) v h g = either_wide (int_lt v x) v x g h

greatest_kept : (o : Option ℤ) (v : ℤ) → IsPick o → IsWide v → IsPick (greatest.combine o (greatest.lift v))
greatest_kept None v h g = g
greatest_kept (Some x) v h g = search (rules, either_wide)

earliest_kept : (o : Option ℤ) (v : ℤ) → IsPick o → IsWide v → IsPick (earliest.combine o (earliest.lift v))
earliest_kept None v h g = g
earliest_kept (Some x) v h g = h

latest_kept : (o : Option ℤ) (v : ℤ) → IsPick o → IsWide v → IsPick (latest.combine o (latest.lift v))
latest_kept None v h g = g
latest_kept (Some x) v h g = g

abbrev IsRun : Option (ℤ × ℤ × ℕ) → Type 0
IsRun None = Unit {0}
IsRun (Some t) = t.2 < 2 ^ 64

small_sum : (m n : ℕ) → count_sum m n < 2 ^ 64
small_sum m n = omega arith

rising_kept : (o : Option (ℤ × ℤ × ℕ)) (v : ℤ) → IsRun o → IsWide v → IsRun (rising.combine o (rising.lift v))
rising_kept None v h g = omega arith
rising_kept (Some x) v h g = small_sum (count_sum x.2 0) (cond (int_lt x.1 v) 1 0)

run_short : (o : Option (ℤ × ℤ × ℕ)) → IsRun o → FitsShown (rising.show o)
run_short None h = zero_wide
run_short (Some t) h = count_wide t.2 h

pub shown_fits : (func : Func) (values : List ℤ) → AllByRecursion (FitsSigned w64) values → FitsShown (shown_of func values)
shown_fits func values h = by func (wide values h)
  where
    wide : (vs : List ℤ) → AllByRecursion (FitsSigned w64) vs → AllByRecursion IsWide vs
    wide [] g = tt
    wide (v ∷ vs) g = (widened v g.0, wide vs g.1)

    by : (f : Func) → AllByRecursion IsWide values → FitsShown (shown_of f values)
    by Count w = let k : fold_of counting values < 2 ^ 64 = kept_up counting (λ n. n < 2 ^ 64) IsWide (λ a v p q. small_sum a 1) values 0 (omega arith) w in count_wide (fold_of counting values) k
    by Sum w = (kept_up summing IsWide IsWide (λ a v p q. wrapped (cast_unsigned w128 a + cast_unsigned w128 v)) values (pos 0) zero_wide w)
    by Min w = pick_short (fold_of least values) (kept_up least IsPick IsWide least_kept values None tt w)
    by Max w = pick_short (fold_of greatest values) (kept_up greatest IsPick IsWide greatest_kept values None tt w)
    by Mean w =
        let k : IsWide (fold_of averaging values).0 × ((fold_of averaging values).1 < 2 ^ 64)
        = kept_up averaging (λ m. IsWide m.0 × (m.1 < 2 ^ 64)) IsWide (λ a v p q. (wrapped (cast_unsigned w128 a.0 + cast_unsigned w128 v), small_sum a.1 1)) values (pos 0, 0) (zero_wide, omega arith) w in
        k
    by First w = pick_short (fold_of earliest values) (kept_up earliest IsPick IsWide earliest_kept values None tt w)
    by Last w = pick_short (fold_of latest values) (kept_up latest IsPick IsWide latest_kept values None tt w)
    by Rises w = run_short (fold_of rising values) (kept_up rising IsRun IsWide rising_kept values None tt w)
    by Trace w =
        let k : (fold_of tracing values).1 < 2 ^ 64 = kept_up tracing (λ t. t.1 < 2 ^ 64) IsWide (λ a v p q. omega arith) values (1, 0) (omega arith) w in
        count_wide (fold_of tracing values).1 k
