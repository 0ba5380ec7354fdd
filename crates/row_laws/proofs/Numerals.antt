-- Numbers of up to 64 digits are read back, and values that are shown.
use Rattle.std.proofs.Common.{◌≡◌, ◌∙◌, ℕ, zero, suc, ◌+◌, ◌-◌, ◌*◌, ◌/◌, ◌%◌, ◌^◌, ◌<◌, eqb, ltb, Bool, true, false, cond, not, List, [], ◌∷◌, ◌++◌, drop, fold, length, ap, sym, refl, arith}
use Rattle.std.specs.Prelude.{ℤ, pos, negsuc, codes}
use Rattle.std.specs.Fmt.{decimal, digit_glyph, digits, digits_onto, signed_decimal}
use Rattle.std.specs.List.{AllByRecursion, list_any, take_while}
use Rattle.std.specs.Str.{bytes_eq}
use Rattle.std.proofs.Math.Nat.{pow-suc}
use Rattle.std.proofs.Math.Seq.{drop-append-add}
use Rattle.std.proofs.lemmas.Bool.{eqb-true, lt-ltb}
use Rattle.std.proofs.lemmas.Bool.Decides.{nat_tests}
use Rattle.std.proofs.lemmas.List.Sums.{take_while-cons}
use Rattle.stream_base.specs.declared.limits.TheConstants.{FINAL}
use Rattle.stream_base.specs.declared.shown.Shown.{Shown}
use Rattle.stream_base.specs.declared.shown.Shown.TheVariants.{Whole, Ratio}
use Rattle.stream_base.specs.Model.Journals.{number_in, signed_in}
use Rattle.stream_base.specs.Model.Text.{end_text, shown_text}
use Rattle.report_laws.proofs.ReadBackLines.{Lacks}
use Rattle.report_laws.proofs.ReadBackWords.{Lacks-decimal, all_digits}
use Rattle.row_laws.specs.Reading.{end_in, shown_in}

-- ---- whole numbers
abbrev more_of : ℕ → ℕ → ℕ
more_of number digit = 10 * number + (digit - 48)

glyph_value : (d : ℕ) → d < 10 → digit_glyph false d - 48 ≡ d
glyph_value d h = let t : ltb d 10 ≡ true = lt-ltb d 10 h in rw t (omega arith)

-- the digits written in front of others, read from nothing, are their number
value_onto : (k n : ℕ) (more : List ℕ) → n < 10 ^ k → fold more_of 0 (digits_onto k 10 false n more) ≡ fold more_of n more
value_onto zero n more h = let z : 0 ≡ n = omega arith in ap (λ m. fold more_of m more) z
value_onto (suc k) n more h = by (eqb (n / 10) 0) refl (value_onto k (n / 10) (digit_glyph false (n % 10) ∷ more) (omega (arith, pow-suc 10 k)))
  where
    with_last : (m : ℕ) → 10 * m + n % 10 ≡ n → fold more_of m (digit_glyph false (n % 10) ∷ more) ≡ fold more_of n more
    with_last m e = ap (λ v. fold more_of (10 * m + v) more) (glyph_value (n % 10) (omega arith)) ∙ ap (λ v. fold more_of v more) e

    by : (b : Bool) → eqb (n / 10) 0 ≡ b → fold more_of 0 (digits_onto k 10 false (n / 10) (digit_glyph false (n % 10) ∷ more)) ≡ fold more_of (n / 10) (digit_glyph false (n % 10) ∷ more)
        → fold more_of 0 (cond b (digit_glyph false (n % 10) ∷ more) (digits_onto k 10 false (n / 10) (digit_glyph false (n % 10) ∷ more))) ≡ fold more_of n more
    by true e later = let z : n / 10 ≡ 0 = eqb-true (n / 10) 0 e in with_last 0 (omega arith)
    by false e later = later ∙ with_last (n / 10) (omega arith)

-- a number of at most 64 digits
abbrev pub IsShort : ℕ → Type 0
IsShort n = n < 10 ^ 64

pub number_read : (n : ℕ) → IsShort n → number_in (decimal n) ≡ n
unfolding digits
number_read n h = value_onto 64 n [] h

abbrev pub IsShortSigned : ℤ → Type 0
IsShortSigned (pos n) = IsShort n
IsShortSigned (negsuc n) = IsShort (suc n)

unsigned : (ds : List ℕ) → AllByRecursion (λ byte. eqb byte 45 ≡ false) ds → signed_in ds ≡ pos (number_in ds)
unsigned [] h = refl
unsigned (d ∷ ds) h = let t : eqb d 45 ≡ false = h.0 in rw t refl

pub signed_read : (z : ℤ) → IsShortSigned z → signed_in (signed_decimal z) ≡ z
signed_read (pos n) h = unsigned (decimal n) (Lacks-decimal 45 (omega arith) n) ∙ ap pos (number_read n h)
signed_read (negsuc n) h =
    let e : number_in (decimal (suc n)) ≡ suc n = number_read (suc n) h in
    let f : suc n - 1 ≡ n = omega arith in
    ap (λ (m : ℕ). negsuc (m - 1)) e ∙ ap negsuc f

signed_no_slash : (z : ℤ) → Lacks 47 (signed_decimal z)
signed_no_slash (pos n) = Lacks-decimal 47 (omega arith) n
signed_no_slash (negsuc n) = (refl, Lacks-decimal 47 (omega arith) (suc n))

-- ---- ends
no_end : (ds : List ℕ) → AllByRecursion (λ byte. eqb byte 101 ≡ false) ds → bytes_eq ds (codes "end") ≡ false
no_end [] h = refl
no_end (d ∷ ds) h = let t : eqb d 101 ≡ false = h.0 in rw t refl

pub end_read : (high : ℕ) → IsShort high → end_in (end_text high) ≡ high
end_read high h = by (eqb high FINAL) refl
  where
    by : (b : Bool) → eqb high FINAL ≡ b → end_in (cond b (codes "end") (decimal high)) ≡ high
    by true e = sym (eqb-true high FINAL e)
    by false e = ap (λ b. cond b FINAL (number_in (decimal high))) (no_end (decimal high) (all_digits (λ byte. eqb byte 101 ≡ false) (λ d l. grind (arith, nat_tests)) high)) ∙ number_read high h

-- ---- values
abbrev pub IsShortShown : Shown → Type 0
IsShortShown (Whole z) = IsShortSigned z
IsShortShown (Ratio z n) = IsShortSigned z × IsShort n

abbrev is_slash : ℕ → Bool
is_slash byte = eqb byte 47

abbrev before_slash : List ℕ → List ℕ
before_slash text = take_while (λ byte. not (is_slash byte)) text

no_slash : (text : List ℕ) → Lacks 47 text → list_any is_slash text ≡ false
no_slash [] h = refl
no_slash (x ∷ text) h = let t : eqb x 47 ≡ false = h.0 in rw t (no_slash text h.1)

has_slash : (text rest : List ℕ) → Lacks 47 text → list_any is_slash (text ++ 47 ∷ rest) ≡ true
has_slash [] rest h = refl
has_slash (x ∷ text) rest h = let t : eqb x 47 ≡ false = h.0 in rw t (has_slash text rest h.1)

up_to_slash : (text rest : List ℕ) → Lacks 47 text → before_slash (text ++ 47 ∷ rest) ≡ text
up_to_slash [] rest h = refl
up_to_slash (x ∷ text) rest h =
    let t : eqb x 47 ≡ false = h.0 in
    let e : before_slash (text ++ 47 ∷ rest) ≡ text = up_to_slash text rest h.1 in
    take_while-cons (λ byte. not (eqb byte 47)) x (text ++ 47 ∷ rest) ∙ rw t (ap (λ (ys : List ℕ). x ∷ ys) e)

pub shown_read : (shown : Shown) → IsShortShown shown → shown_in (shown_text shown) ≡ shown
shown_read (Whole z) h =
    let text : List ℕ = signed_decimal z in
    ap (λ b. cond b (Ratio (signed_in (before_slash text)) (number_in (drop (length (before_slash text) + 1) text))) (Whole (signed_in text))) (no_slash text (signed_no_slash z))
    ∙ ap Whole (signed_read z h)
shown_read (Ratio z n) h =
    let text : List ℕ = signed_decimal z ++ 47 ∷ decimal n in
    let plain : Lacks 47 (signed_decimal z) = signed_no_slash z in
    let front : before_slash text ≡ signed_decimal z = up_to_slash (signed_decimal z) (decimal n) plain in
    let back : drop (length (before_slash text) + 1) text ≡ decimal n = ap (λ w. drop (length w + 1) text) front ∙ drop-append-add (signed_decimal z) (47 ∷ decimal n) 1 in
    ap (λ b. cond b (Ratio (signed_in (before_slash text)) (number_in (drop (length (before_slash text) + 1) text))) (Whole (signed_in text))) (has_slash (signed_decimal z) (decimal n) plain)
    ∙ (λ i. Ratio (signed_in (front i)) (number_in (back i)))
    ∙ (λ i. Ratio (signed_read z h.0 i) (number_read n h.1 i))
