-- A header is told by the number in it.
use Rattle.std.proofs.Common.{◌≡◌, ◌∙◌, ℕ, ◌-◌, ◌^◌, ◌<◌, Bool, true, false, List, [], ◌∷◌, ◌++◌, min, refl, sym, ap, arith, codes, ltb}
use Rattle.std.specs.Prelude.{decimal, ◌&&◌}
use Rattle.std.specs.Str.{bytes_eq}
use Rattle.std.proofs.lemmas.Bool.Decides.{nat_tests}
use Rattle.std.proofs.lemmas.Slice.Eq.{bytes_eq-Decides}
use Rattle.stream_base.specs.Model.Journals.{after_word, is_header, number_in}
use Rattle.stream_base.specs.Model.Text.{line_of}
use Rattle.report_laws.proofs.ReadBackExact.{is_header-exact}

-- the line of a header with this number
abbrev header : ℕ → List ℕ
header number = line_of (codes "shard" ∷ decimal number ∷ [])

spelled_true : (line : List ℕ) (m : ℕ) → m < 2 ^ 64 → bytes_eq (header m) (line ++ 10 ∷ []) ≡ true → is_header line ≡ true
spelled_true line m h t = (is_header-exact line).1 (m, h, (bytes_eq-Decides (header m) (line ++ 10 ∷ [])).0 t)

within : (line : List ℕ) (m : ℕ) (b c : Bool) → ltb (number_in (after_word line)) (2 ^ 64) ≡ b → bytes_eq (header m) (line ++ 10 ∷ []) ≡ c
    → m ≡ min (number_in (after_word line)) (2 ^ 64 - 1) → bytes_eq (header m) (line ++ 10 ∷ []) ≡ is_header line
within line m b true s t e =
    let small : m < 2 ^ 64 = omega arith in
    t ∙ sym (spelled_true line m small t)
within line m true false s t e =
    let same : m ≡ number_in (after_word line) = grind (arith, nat_tests) in
    ap (λ n. bytes_eq (header n) (line ++ 10 ∷ [])) same ∙ sym (and_true (bytes_eq (header (number_in (after_word line))) (line ++ 10 ∷ [])) (ltb (number_in (after_word line)) (2 ^ 64)) s)
  where
    and_true : (a b : Bool) → b ≡ true → (a && b) ≡ a
    and_true true b e = e
    and_true false b e = refl
within line m false false s t e = t ∙ sym (and_false (bytes_eq (header (number_in (after_word line))) (line ++ 10 ∷ [])) (ltb (number_in (after_word line)) (2 ^ 64)) s)
  where
    and_false : (a b : Bool) → b ≡ false → (a && b) ≡ false
    and_false true b e = e
    and_false false b e = refl

-- a line is a header exactly where the number in it, up to the greatest of 64 bits, spells it
pub header_by_number : (line : List ℕ) (m : ℕ) → m ≡ min (number_in (after_word line)) (2 ^ 64 - 1) → bytes_eq (header m) (line ++ 10 ∷ []) ≡ is_header line
header_by_number line m e = within line m (ltb (number_in (after_word line)) (2 ^ 64)) (bytes_eq (header m) (line ++ 10 ∷ [])) refl refl e
