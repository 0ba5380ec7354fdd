-- The lines of texts that stand one behind the other.
use Rattle.std.proofs.Common.{◌≡◌, ℕ, eqb, Bool, true, false, cond, List, [], ◌∷◌, ◌++◌, refl, ap, ◌∙◌}
use Rattle.std.specs.List.{AllByRecursion}
use Rattle.stream_base.specs.Model.Journals.{with_byte, lines_of}
use Rattle.report_laws.specs.ReadBack.{is_whole}

-- none of the bytes is c
abbrev pub Lacks : ℕ → List ℕ → Type 0
Lacks c bytes = AllByRecursion (λ byte. eqb byte c ≡ false) bytes

pub Lacks-append : (c : ℕ) (xs ys : List ℕ) → Lacks c xs → Lacks c ys → Lacks c (xs ++ ys)
Lacks-append c [] ys h g = g
Lacks-append c (x ∷ xs) ys h g = (h.0, Lacks-append c xs ys h.1 g)

with_line_feed : (lines : List (List ℕ)) → with_byte 10 lines ≡ [] ∷ lines
with_line_feed [] = refl
with_line_feed (line ∷ lines) = refl

-- a line's bytes up to its line feed are the first of the lines
pub lines_of-line : (line rest : List ℕ) → Lacks 10 line → lines_of (line ++ 10 ∷ rest) ≡ line ∷ lines_of rest
lines_of-line [] rest h = with_line_feed (lines_of rest)
lines_of-line (x ∷ line) rest h =
    let e : lines_of (line ++ 10 ∷ rest) ≡ line ∷ lines_of rest = lines_of-line line rest h.1 in
    let t : eqb x 10 ≡ false = h.0 in
    rw (e, t) refl

either_append : (t : Bool) (xs ys more : List (List ℕ)) → cond t (xs ++ more) (ys ++ more) ≡ cond t xs ys ++ more
either_append true xs ys more = refl
either_append false xs ys more = refl

either_begun : (t : Bool) (l m : List ℕ) (ls ms : List (List ℕ)) → (k : List ℕ) × (ks : List (List ℕ)) × (cond t (l ∷ ls) (m ∷ ms) ≡ k ∷ ks)
either_begun true l m ls ms = (l, ls, refl)
either_begun false l m ls ms = (m, ms, refl)

-- a byte in front of lines makes at least one line
begun : (byte : ℕ) (lines : List (List ℕ)) → (l : List ℕ) × (ls : List (List ℕ)) × (with_byte byte lines ≡ l ∷ ls)
begun byte [] = either_begun (eqb byte 10) [] (byte ∷ []) [] []
begun byte (line ∷ lines) = either_begun (eqb byte 10) [] (byte ∷ line) (line ∷ lines) lines

with_byte-append : (byte : ℕ) (line : List ℕ) (lines more : List (List ℕ)) → with_byte byte ((line ∷ lines) ++ more) ≡ with_byte byte (line ∷ lines) ++ more
with_byte-append byte line lines more = either_append (eqb byte 10) ([] ∷ line ∷ lines) ((byte ∷ line) ∷ lines) more

with_last_byte : (byte : ℕ) (lines : List (List ℕ)) → eqb byte 10 ≡ true → with_byte byte lines ≡ with_byte byte [] ++ lines
with_last_byte byte [] h = rw h refl
with_last_byte byte (line ∷ lines) h = rw h refl

-- the lines of whole lines and of what stands behind them
pub lines_of-append : (text rest : List ℕ) → is_whole text ≡ true → lines_of (text ++ rest) ≡ lines_of text ++ lines_of rest
lines_of-append [] rest h = refl
lines_of-append (x ∷ []) rest h = with_last_byte x (lines_of rest) h
lines_of-append (x ∷ y ∷ text) rest h =
    let e : lines_of ((y ∷ text) ++ rest) ≡ lines_of (y ∷ text) ++ lines_of rest = lines_of-append (y ∷ text) rest h in
    let b = begun y (lines_of text) in
    let c : with_byte x (with_byte y (lines_of text) ++ lines_of rest) ≡ with_byte x (with_byte y (lines_of text)) ++ lines_of rest = rw (b.2) (with_byte-append x b.0 b.1 (lines_of rest)) in
    ap (with_byte x) e ∙ c

pub is_whole-append : (text rest : List ℕ) → is_whole text ≡ true → is_whole rest ≡ true → is_whole (text ++ rest) ≡ true
is_whole-append [] rest h g = g
is_whole-append (x ∷ []) [] h g = h
is_whole-append (x ∷ []) (y ∷ rest) h g = g
is_whole-append (x ∷ y ∷ text) rest h g = is_whole-append (y ∷ text) rest h g

-- a line with its line feed is whole
pub is_whole-line : (line : List ℕ) → is_whole (line ++ 10 ∷ []) ≡ true
is_whole-line [] = refl
is_whole-line (x ∷ []) = refl
is_whole-line (x ∷ y ∷ line) = is_whole-line (y ∷ line)
