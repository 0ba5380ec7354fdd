-- Words and numbers are read back from a line.
use Rattle.std.proofs.Common.{◌≡◌, ℕ, ◌+◌, ◌-◌, ◌*◌, ◌/◌, ◌%◌, ◌^◌, ◌<◌, ◌≤◌, eqb, ltb, Bool, true, false, cond, not, List, [], ◌∷◌, ◌++◌, length, drop, refl, ap, ◌∙◌, arith, rules, suc, zero}
use Rattle.std.proofs.Math.Seq.{drop-append-add}
use Rattle.std.proofs.lemmas.Bool.{and_parts, leb-true, lt-ltb}
use Rattle.std.proofs.lemmas.Bool.Decides.{nat_tests}
use Rattle.std.proofs.lemmas.List.Sums.{take_while-cons}
use Rattle.std.proofs.lemmas.Fmt.{digits_value-decimal}
use Rattle.std.proofs.lemmas.Str.Parse.{IsNumeralModel, numerals_by_fold}
use Rattle.std.specs.List.{AllByRecursion, fold}
use Rattle.std.specs.Str.{all_ascii_digits}
use Rattle.std.specs.Fmt.{digits, digits_onto, digit_glyph, decimal, signed_decimal}
use Rattle.std.specs.Prelude.{ℤ, pos, negsuc}
use Rattle.stream_base.specs.Model.Journals.{word, after_word, number_in, signed_in}
use Rattle.stream_base.specs.Limits.{is_value}
use Rattle.report_laws.proofs.ReadBackLines.{Lacks}

-- the word in front of a space
pub word-space : (text rest : List ℕ) → Lacks 32 text → word (text ++ 32 ∷ rest) ≡ text
word-space [] rest h = refl
word-space (x ∷ text) rest h =
    let t : eqb x 32 ≡ false = h.0 in
    let e : word (text ++ 32 ∷ rest) ≡ text = word-space text rest h.1 in
    take_while-cons (λ byte. not (eqb byte 32)) x (text ++ 32 ∷ rest) ∙ rw t (ap (λ (ys : List ℕ). x ∷ ys) e)

-- what stands behind it
pub after_word-space : (text rest : List ℕ) → Lacks 32 text → after_word (text ++ 32 ∷ rest) ≡ rest
after_word-space text rest h =
    let e : word (text ++ 32 ∷ rest) ≡ text = word-space text rest h in
    ap (λ (w : List ℕ). drop (length w + 1) (text ++ 32 ∷ rest)) e ∙ drop-append-add text (32 ∷ rest) 1

-- the value of digits is what std's lemmas say of a fold over them
own : IsNumeralModel (λ ds. all_ascii_digits ds ≡ true) number_in
own = numerals_by_fold _ (search rules) (λ n ds. fold (λ number digit. 10 * number + (digit - 48)) n ds) (search rules)

-- a number is read back from its digits
pub number_in-decimal : (n : ℕ) → n < 2 ^ 64 → number_in (decimal n) ≡ n
number_in-decimal n h = digits_value-decimal own n h

a_glyph : (P : ℕ → Type 0) → ((d : ℕ) → d < 10 → P (48 + d)) → (d : ℕ) → d < 10 → P (digit_glyph false d)
a_glyph P each d h = let t : ltb d 10 ≡ true = lt-ltb d 10 h in rw t (each d h)

all_either : (P : ℕ → Type 0) (t : Bool) (xs ys : List ℕ) → AllByRecursion P xs → AllByRecursion P ys → AllByRecursion P (cond t xs ys)
all_either P true xs ys h g = h
all_either P false xs ys h g = g

-- what holds of the ten digits holds of each byte that `decimal` writes, however great the number
all_onto : (P : ℕ → Type 0) → ((d : ℕ) → d < 10 → P (48 + d)) → (k n : ℕ) (more : List ℕ) → AllByRecursion P more → AllByRecursion P (digits_onto k 10 false n more)
all_onto P each zero n more h = h
all_onto P each (suc k) n more h =
    let one : AllByRecursion P (digit_glyph false (n % 10) ∷ more) = (a_glyph P each (n % 10) (omega arith), h) in
    all_either P (eqb (n / 10) 0) (digit_glyph false (n % 10) ∷ more) (digits_onto k 10 false (n / 10) (digit_glyph false (n % 10) ∷ more)) one (all_onto P each k (n / 10) (digit_glyph false (n % 10) ∷ more) one)

pub all_digits : (P : ℕ → Type 0) → ((d : ℕ) → d < 10 → P (48 + d)) → (n : ℕ) → AllByRecursion P (decimal n)
unfolding digits
all_digits P each n = all_onto P each 64 n [] tt

pub Lacks-decimal : (c : ℕ) → c < 48 → (n : ℕ) → Lacks c (decimal n)
Lacks-decimal c h n = all_digits (λ byte. eqb byte c ≡ false) (λ d l. grind (arith, nat_tests)) n

pub Lacks-signed_decimal : (c : ℕ) → c < 45 → (z : ℤ) → Lacks c (signed_decimal z)
Lacks-signed_decimal c h (pos n) = Lacks-decimal c (omega arith) n
Lacks-signed_decimal c h (negsuc n) = (grind (arith, nat_tests), Lacks-decimal c (omega arith) (suc n))

-- digits alone have no sign
unsigned : (ds : List ℕ) → AllByRecursion (λ byte. eqb byte 45 ≡ false) ds → signed_in ds ≡ pos (number_in ds)
unsigned [] h = refl
unsigned (d ∷ ds) h = let t : eqb d 45 ≡ false = h.0 in rw t refl

-- a signed number is read back
pub signed_in-decimal : (z : ℤ) → is_value z ≡ true → signed_in (signed_decimal z) ≡ z
signed_in-decimal (pos n) h =
    let within : n ≤ 2 ^ 63 - 1 = leb-true n (2 ^ 63 - 1) h in
    let small : n < 2 ^ 64 = omega arith in
    unsigned (decimal n) (Lacks-decimal 45 (omega arith) n) ∙ ap pos (number_in-decimal n small)
signed_in-decimal (negsuc n) h =
    let within : n ≤ 2 ^ 63 - 1 = leb-true n (2 ^ 63 - 1) (and_parts _ true h).0 in
    let small : suc n < 2 ^ 64 = omega arith in
    let e : number_in (decimal (suc n)) ≡ suc n = number_in-decimal (suc n) small in
    ap negsuc (ap (λ (m : ℕ). m - 1) e ∙ omega arith)
