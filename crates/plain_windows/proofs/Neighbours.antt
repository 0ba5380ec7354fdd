-- Cuts between neighbours: by a mark, and how many pieces they make.
use Rattle.std.proofs.Common.{◌≡◌, ◌∙◌, ℕ, ◌+◌, ◌<◌, ◌≤◌, Bool, true, false, cond, List, [], ◌∷◌, length, get_or, drop, ap, sym, refl, arith}
use Rattle.std.specs.Prelude.{◌&&◌, nat_le, nat_lt}
use Rattle.std.specs.List.{All, list_any}
use Rattle.std.specs.List.Sorted.{IsStrictlyIncreasing}
use Rattle.std.proofs.lemmas.Bool.{le-ltb, leb-false, ltb-true, ltb-false}
use Rattle.std.proofs.lemmas.Bool.Decides.{nat_tests}
use Rattle.std.proofs.lemmas.List.{drop_all, drop_more, get_or_default}
use Rattle.std.proofs.lemmas.List.Folds.{list_any_at, list_any_none}
use Rattle.stream_base.specs.Model.Windows.{glued, pieces_of}
use Rattle.stream_base.specs.Places.{IsPlaceOf}
use Rattle.plain_windows.proofs.PieceFacts.{HasHead, pieces_head}
use Rattle.plain_windows.proofs.PlaceFacts.{marks_do_not_fall}

-- ---- marks
before_low : (low high m : ℕ) → m < low + 1 → (nat_lt low m && nat_le m high) ≡ false
before_low low high m h = grind (arith, nat_tests)

behind_high : (low high m : ℕ) → high < m → (nat_lt low m && nat_le m high) ≡ false
behind_high low high m h = grind (arith, nat_tests)

between : (low high m : ℕ) → low + 1 ≤ m → nat_le m high ≡ true → (nat_lt low m && nat_le m high) ≡ true
between low high m h t = grind (arith, nat_tests)

module _ (marks : List ℕ) (low high place : ℕ) where
  -- no mark stands behind the earlier time
  pub no_mark : IsPlaceOf (λ m. m) marks (low + 1) place → length marks ≤ place → nat_lt place (length marks) ≡ list_any (λ m. nat_lt low m && nat_le m high) marks
  no_mark at le =
      le-ltb place (length marks) le
      ∙ sym (list_any_none (λ m. nat_lt low m && nat_le m high) marks (λ k d l. before_low low high (get_or marks k d) (at.before k d (omega arith) (omega arith))))

  -- the first mark behind it decides
  pub first_mark_decides : IsStrictlyIncreasing marks → IsPlaceOf (λ m. m) marks (low + 1) place → place < length marks → list_any (λ m. nat_lt low m && nat_le m high) marks ≡ nat_le (get_or marks place 0) high
  first_mark_decides rising at lt = by (nat_le (get_or marks place 0) high) refl
    where
      by : (t : Bool) → nat_le (get_or marks place 0) high ≡ t → list_any (λ m. nat_lt low m && nat_le m high) marks ≡ t
      by true e = list_any_at (λ m. nat_lt low m && nat_le m high) marks place 0 lt (between low high (get_or marks place 0) (at.behind place 0 (omega arith) lt) e)
      by false e = list_any_none (λ m. nat_lt low m && nat_le m high) marks none
        where
          after : high < get_or marks place 0
          after = leb-false (get_or marks place 0) high e

          each : (k d : ℕ) → k < length marks → (t : Bool) → nat_lt k place ≡ t → (nat_lt low (get_or marks k d) && nat_le (get_or marks k d) high) ≡ false
          each k d l true u = before_low low high (get_or marks k d) (at.before k d (omega arith) (ltb-true k place u))
          each k d l false u =
              let rise : get_or marks place d ≤ get_or marks k d = marks_do_not_fall marks rising place k d (ltb-false k place u) l in
              behind_high low high (get_or marks k d) (omega (arith, rise, after, get_or_default marks place d 0 lt))

          none : All (λ m. (nat_lt low m && nat_le m high) ≡ false) marks
          none k d l = each k d l (nat_lt k place) refl

-- ---- pieces
module _ {X : Type 0} (cut : X → X → Bool) where
  -- the pieces from an element on are one more than those behind it where there is a cut between the two
  glued_length : (x y : X) (run : List X) (rest : List (List X)) (t : Bool) → cut x y ≡ t → length (glued cut x ((y ∷ run) ∷ rest)) ≡ length ((y ∷ run) ∷ rest) + cond t 1 0
  glued_length x y run rest true e = ap (λ b. length (cond b ((x ∷ []) ∷ (y ∷ run) ∷ rest) ((x ∷ y ∷ run) ∷ rest))) e ∙ omega arith
  glued_length x y run rest false e = ap (λ b. length (cond b ((x ∷ []) ∷ (y ∷ run) ∷ rest) ((x ∷ y ∷ run) ∷ rest))) e ∙ omega arith

  pub pieces_more : (xs : List X) (n : ℕ) (d : X) (t : Bool) → n + 1 < length xs → cut (get_or xs n d) (get_or xs (n + 1) d) ≡ t → length (pieces_of cut (drop n xs)) ≡ length (pieces_of cut (drop (n + 1) xs)) + cond t 1 0
  pieces_more xs n d t lt e =
      let x = get_or xs n d in
      let y = get_or xs (n + 1) d in
      let here : drop n xs ≡ x ∷ drop (n + 1) xs = drop_more xs n d (omega arith) in
      let next : drop (n + 1) xs ≡ y ∷ drop (n + 1 + 1) xs = drop_more xs (n + 1) d lt in
      let h : HasHead cut y (pieces_of cut (y ∷ drop (n + 1 + 1) xs)) = pieces_head cut y (drop (n + 1 + 1) xs) in
      ap (λ l. length (pieces_of cut l)) here
      ∙ ap (λ l. length (glued cut x (pieces_of cut l))) next
      ∙ ap (λ p. length (glued cut x p)) h.is
      ∙ glued_length x y h.run h.rest t e
      ∙ ap (λ p. length p + cond t 1 0) (sym h.is)
      ∙ ap (λ l. length (pieces_of cut l) + cond t 1 0) (sym next)

  -- the last element is a piece
  pub last_piece : (xs : List X) (n : ℕ) (d : X) → n + 1 ≡ length xs → length (pieces_of cut (drop n xs)) ≡ 1
  last_piece xs n d is =
      ap (λ l. length (pieces_of cut l)) (drop_more xs n d (omega arith) ∙ ap (λ l. get_or xs n d ∷ l) (drop_all (n + 1) xs (omega arith)))

  -- no element makes no piece
  pub no_piece : (xs : List X) → length xs ≡ 0 → length (pieces_of cut xs) ≡ 0
  no_piece [] e = refl
  no_piece (x ∷ xs) e = absurd (omega arith)
