-- The first line of a text, and what stands behind it.
use Rattle.std.proofs.Common.{◌≡◌, ◌∙◌, ℕ, ◌+◌, eqb, Bool, true, false, not, List, [], ◌∷◌, length, drop, take_while, refl, ap, ◌<◌, ◌≤◌, suc, arith, cond, ltb, Some, None}
use Rattle.std.proofs.lemmas.List.Sums.{take_while-cons, prefix_len-le-length}
use Rattle.std.proofs.lemmas.Bool.Decides.{nat_tests}
use Rattle.std.specs.List.{position, position_or_len}
use Rattle.std.specs.Option.{unwrap_or}
use Rattle.stream_base.specs.Model.Journals.{lines_of, with_byte}

-- the bytes in front of the first line feed
abbrev pub front : List ℕ → List ℕ
front text = take_while (λ byte. not (eqb byte 10)) text

with_feed : (byte : ℕ) (lines : List (List ℕ)) → eqb byte 10 ≡ true → with_byte byte lines ≡ [] ∷ lines
with_feed byte [] t = rw t refl
with_feed byte (line ∷ lines) t = rw t refl

with_joined : (byte : ℕ) (line : List ℕ) (lines : List (List ℕ)) → eqb byte 10 ≡ false → with_byte byte (line ∷ lines) ≡ (byte ∷ line) ∷ lines
with_joined byte line lines t = rw t refl

front_feed : (x : ℕ) (xs : List ℕ) → eqb x 10 ≡ true → front (x ∷ xs) ≡ []
front_feed x xs t = take_while-cons (λ byte. not (eqb byte 10)) x xs ∙ rw t refl

front_joined : (x : ℕ) (xs : List ℕ) → eqb x 10 ≡ false → front (x ∷ xs) ≡ x ∷ front xs
front_joined x xs t = take_while-cons (λ byte. not (eqb byte 10)) x xs ∙ rw t refl

feed : (x : ℕ) (xs : List ℕ) → eqb x 10 ≡ true → lines_of (x ∷ xs) ≡ front (x ∷ xs) ∷ lines_of (drop (length (front (x ∷ xs)) + 1) (x ∷ xs))
feed x xs t = let f = front_feed x xs t in rw f (with_feed x (lines_of xs) t)

alone : (x : ℕ) → eqb x 10 ≡ false → lines_of (x ∷ []) ≡ front (x ∷ []) ∷ lines_of (drop (length (front (x ∷ [])) + 1) (x ∷ []))
alone x t = let f = front_joined x [] t in rw (f, t) refl

joined : (x : ℕ) (xs : List ℕ) → eqb x 10 ≡ false → lines_of xs ≡ front xs ∷ lines_of (drop (length (front xs) + 1) xs)
    → lines_of (x ∷ xs) ≡ front (x ∷ xs) ∷ lines_of (drop (length (front (x ∷ xs)) + 1) (x ∷ xs))
joined x xs t e =
    let f = front_joined x xs t in
    let s : length (x ∷ front xs) + 1 ≡ suc (length (front xs) + 1) = omega arith in
    rw (f, s) (ap (with_byte x) e ∙ with_joined x (front xs) (lines_of (drop (length (front xs) + 1) xs)) t)

either_line : (x : ℕ) (xs : List ℕ) (b : Bool) → eqb x 10 ≡ b → lines_of xs ≡ front xs ∷ lines_of (drop (length (front xs) + 1) xs)
    → lines_of (x ∷ xs) ≡ front (x ∷ xs) ∷ lines_of (drop (length (front (x ∷ xs)) + 1) (x ∷ xs))
either_line x xs true t e = feed x xs t
either_line x xs false t e = joined x xs t e

either_alone : (x : ℕ) (b : Bool) → eqb x 10 ≡ b → lines_of (x ∷ []) ≡ front (x ∷ []) ∷ lines_of (drop (length (front (x ∷ [])) + 1) (x ∷ []))
either_alone x true t = feed x [] t
either_alone x false t = alone x t

-- the lines of a text that isn't empty are the bytes up to the first line feed, and the lines of those behind it
pub by_line : (x : ℕ) (xs : List ℕ) → lines_of (x ∷ xs) ≡ front (x ∷ xs) ∷ lines_of (drop (length (front (x ∷ xs)) + 1) (x ∷ xs))
by_line x [] = either_alone x (eqb x 10) refl
by_line x (y ∷ ys) = either_line x (y ∷ ys) (eqb x 10) refl (by_line y ys)

pub by_first_line : (text : List ℕ) → 0 < length text → lines_of text ≡ front text ∷ lines_of (drop (length (front text) + 1) text)
by_first_line [] h = absurd (omega arith)
by_first_line (x ∷ xs) h = by_line x xs

place_or_end : (place end : ℕ) (b : Bool) → ltb place end ≡ b → place ≤ end → unwrap_or (cond b (Some place) None) end ≡ place
place_or_end place end true t l = refl
place_or_end place end false t l = grind (arith, nat_tests)

pub first_or_end : {X : Type 0} (p : X → Bool) (xs : List X) → unwrap_or (position p xs) (length xs) ≡ position_or_len p xs
first_or_end p xs = place_or_end (position_or_len p xs) (length xs) (ltb (position_or_len p xs) (length xs)) refl (prefix_len-le-length (λ x. not (p x)) xs)
