-- How many values a partial has.
use Rattle.std.proofs.Common.{◌≡◌, ◌∙◌, ℤ, ℕ, ◌+◌, ◌<◌, List, [], ◌∷◌, length, map, ap, arith}
use Rattle.std.specs.Prelude.{◌%◌, ◌^◌, pos}
use Rattle.std.specs.List.{fold}
use Rattle.stream_base.specs.declared.func.Func.TheVariants.{Count}
use Rattle.stream_base.specs.declared.kept.Kept.{Kept}
use Rattle.stream_base.specs.declared.shown.Shown.TheVariants.{Whole}
use Rattle.stream_base.specs.Model.Functions.{shown_of}

counted_from : (n : ℕ) (xs : List Kept) → n + length xs < 2 ^ 64 → fold (λ so_far (v : ℤ). (so_far + 1) % 2 ^ 64) n (map (λ (x : Kept). x.value) xs) ≡ n + length xs
counted_from n [] l = omega arith
counted_from n (x ∷ xs) l =
    let small : (n + 1) % 2 ^ 64 ≡ n + 1 = omega arith in
    let more : n + 1 + length xs ≡ n + length (x ∷ xs) = omega arith in
    ap (λ m. fold (λ so_far (v : ℤ). (so_far + 1) % 2 ^ 64) m (map (λ (x : Kept). x.value) xs)) small
    ∙ counted_from (n + 1) xs (omega arith)
    ∙ more

counted : (xs : List Kept) → length xs < 2 ^ 64 → fold (λ so_far (v : ℤ). (so_far + 1) % 2 ^ 64) 0 (map (λ (x : Kept). x.value) xs) ≡ length xs
counted xs l =
    let h : fold (λ so_far (v : ℤ). (so_far + 1) % 2 ^ 64) 0 (map (λ (x : Kept). x.value) xs) ≡ 0 + length xs = counted_from 0 xs (omega arith) in
    omega arith

pub count_shows : (xs : List Kept) → length xs < 2 ^ 64 → shown_of Count (map (λ (x : Kept). x.value) xs) ≡ Whole (pos (length xs))
count_shows xs l = ap (λ n. Whole (pos n)) (counted xs l)
