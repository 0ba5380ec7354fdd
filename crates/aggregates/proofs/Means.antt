-- A mean from the sum and the count.
use Rattle.std.proofs.Common.{◌≡◌, ℕ, ℤ, pos, List, [], ◌∷◌, refl}
use Rattle.std.specs.Prelude.{fold}
use Rattle.std.specs.Int.{w128, int_wrapping_add}
use Rattle.stream_base.specs.Model.Functions.{averaging, counting, summing, count_sum, fold_of}

mean_from : (a : ℤ) (n : ℕ) (values : List ℤ) → fold (λ m v. averaging.combine m (averaging.lift v)) (a, n) values ≡ (fold (λ a v. int_wrapping_add w128 a v) a values, fold (λ a v. count_sum a 1) n values)
mean_from a n [] = refl
mean_from a n (v ∷ vs) = mean_from (int_wrapping_add w128 a v) (count_sum n 1) vs

pub mean_is : (values : List ℤ) → fold_of averaging values ≡ (fold_of summing values, fold_of counting values)
mean_is values = mean_from (pos 0) 0 values
