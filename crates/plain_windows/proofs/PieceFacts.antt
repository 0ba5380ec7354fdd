-- Pieces of a list with no cut between neighbours: the first of them, and those on two sides of a cut.
use Rattle.std.proofs.Common.{◌≡◌, ◌∙◌, ℕ, zero, suc, ◌+◌, ◌-◌, ◌<◌, ◌≤◌, Bool, true, false, cond, List, [], ◌∷◌, ◌++◌, length, get_or, take, drop, ap, sym, refl, subst, arith, length-drop, get_or-drop}
use Rattle.std.proofs.lemmas.List.{drop_more, drop-drop, get_or_default}
use Rattle.stream_base.specs.Model.Windows.{glued, pieces_of}

module _ {X : Type 0} (cut : X → X → Bool) where
  -- the first piece of a list begins with its first element
  pub record HasHead (x : X) (pieces : List (List X)) : Type 0 where
    pub run : List X
    pub rest : List (List X)
    pub is : pieces ≡ (x ∷ run) ∷ rest

  pub glued_head : (x : X) (pieces : List (List X)) → HasHead x (glued cut x pieces)
  glued_head x [] = record { run = []; rest = []; is = refl }
  glued_head x ([] ∷ pieces) = record { run = []; rest = pieces; is = refl }
  glued_head x ((y ∷ ys) ∷ pieces) = by (cut x y)
    where
      by : (b : Bool) → HasHead x (cond b ((x ∷ []) ∷ (y ∷ ys) ∷ pieces) ((x ∷ y ∷ ys) ∷ pieces))
      by true = record { run = []; rest = (y ∷ ys) ∷ pieces; is = refl }
      by false = record { run = y ∷ ys; rest = pieces; is = refl }

  pub pieces_head : (x : X) (xs : List X) → HasHead x (pieces_of cut (x ∷ xs))
  pieces_head x xs = glued_head x (pieces_of cut xs)

  -- an element is a piece of its own where there is a cut behind it
  pub glued_apart : (x y : X) (ys : List X) → cut x y ≡ true → glued cut x (pieces_of cut (y ∷ ys)) ≡ (x ∷ []) ∷ pieces_of cut (y ∷ ys)
  glued_apart x y ys e =
      let h = pieces_head y ys in
      ap (glued cut x) h.is
      ∙ ap (λ b. cond b ((x ∷ []) ∷ (y ∷ h.run) ∷ h.rest) ((x ∷ y ∷ h.run) ∷ h.rest)) e
      ∙ ap (λ l. (x ∷ []) ∷ l) (sym h.is)

  -- and joins the piece behind it where there is none
  pub glued_near : (x y : X) (run : List X) (rest : List (List X)) → cut x y ≡ false → glued cut x ((y ∷ run) ∷ rest) ≡ (x ∷ y ∷ run) ∷ rest
  glued_near x y run rest e = ap (λ b. cond b ((x ∷ []) ∷ (y ∷ run) ∷ rest) ((x ∷ y ∷ run) ∷ rest)) e

  pub glued_append : (x y : X) (ys : List X) (more : List (List X)) → glued cut x (pieces_of cut (y ∷ ys) ++ more) ≡ glued cut x (pieces_of cut (y ∷ ys)) ++ more
  glued_append x y ys more =
      let h = pieces_head y ys in
      ap (λ l. glued cut x (l ++ more)) h.is ∙ by (cut x y) h.run h.rest ∙ ap (λ l. glued cut x l ++ more) (sym h.is)
    where
      by : (b : Bool) (run : List X) (rest : List (List X)) → cond b ((x ∷ []) ∷ (y ∷ run) ∷ (rest ++ more)) ((x ∷ y ∷ run) ∷ (rest ++ more)) ≡ cond b ((x ∷ []) ∷ (y ∷ run) ∷ rest) ((x ∷ y ∷ run) ∷ rest) ++ more
      by true run rest = refl
      by false run rest = refl

  -- the first piece reaches up to the first cut
  pub first_piece : (xs : List X) (n : ℕ) → suc n ≤ length xs → ((k : ℕ) (d : X) → k < n → cut (get_or xs k d) (get_or xs (suc k) d) ≡ false) → ((d : X) → suc n < length xs → cut (get_or xs n d) (get_or xs (suc n) d) ≡ true) → pieces_of cut xs ≡ take (suc n) xs ∷ pieces_of cut (drop (suc n) xs)
  first_piece [] n le inside edge = absurd (omega arith)
  first_piece (x ∷ []) zero le inside edge = refl
  first_piece (x ∷ []) (suc n) le inside edge = absurd (omega arith)
  first_piece (x ∷ y ∷ ys) zero le inside edge = glued_apart x y ys (edge x (omega arith))
  first_piece (x ∷ y ∷ ys) (suc n) le inside edge =
      ap (glued cut x) (first_piece (y ∷ ys) n (omega arith) (λ k d l. inside (suc k) d (omega arith)) (λ d l. edge d (omega arith)))
      ∙ glued_near x y (take n ys) (pieces_of cut (drop n ys)) (inside 0 x (omega arith))

  -- the pieces on two sides of a cut
  pub pieces_split : (xs : List X) (n : ℕ) → suc n < length xs → ((d : X) → cut (get_or xs n d) (get_or xs (suc n) d) ≡ true) → pieces_of cut xs ≡ pieces_of cut (take (suc n) xs) ++ pieces_of cut (drop (suc n) xs)
  pieces_split [] n l edge = absurd (omega arith)
  pieces_split (x ∷ []) n l edge = absurd (omega arith)
  pieces_split (x ∷ y ∷ ys) zero l edge = glued_apart x y ys (edge x)
  pieces_split (x ∷ y ∷ ys) (suc n) l edge =
      ap (glued cut x) (pieces_split (y ∷ ys) n (omega arith) (λ d. edge d))
      ∙ glued_append x y (take n ys) (pieces_of cut (drop n ys))

  -- a piece that begins behind an element with no cut between the two begins with that element
  pub longer_piece : (xs : List X) (first end : ℕ) (d : X) (rest : List (List X)) → first + 1 < end → end ≤ length xs → cut (get_or xs first d) (get_or xs (first + 1) d) ≡ false → pieces_of cut (drop (first + 1) xs) ≡ take (end - (first + 1)) (drop (first + 1) xs) ∷ rest → pieces_of cut (drop first xs) ≡ take (end - first) (drop first xs) ∷ rest
  longer_piece xs first end d rest l le near h =
      let here : drop first xs ≡ get_or xs first d ∷ drop (first + 1) xs = drop_more xs first d (omega arith) in
      let next : drop (first + 1) xs ≡ get_or xs (first + 1) d ∷ drop (first + 1 + 1) xs = drop_more xs (first + 1) d (omega arith) in
      let count : end - (first + 1) ≡ suc (end - (first + 1) - 1) = omega arith in
      let more : end - first ≡ suc (suc (end - (first + 1) - 1)) = omega arith in
      let piece : take (end - (first + 1)) (drop (first + 1) xs) ≡ get_or xs (first + 1) d ∷ take (end - (first + 1) - 1) (drop (first + 1 + 1) xs) = (λ i. take (count i) (next i)) in
      let longer : take (end - first) (drop first xs) ≡ get_or xs first d ∷ get_or xs (first + 1) d ∷ take (end - (first + 1) - 1) (drop (first + 1 + 1) xs) = (λ i. take (more i) (here i)) ∙ ap (λ l. get_or xs first d ∷ take (suc (end - (first + 1) - 1)) l) next in
      ap (pieces_of cut) here
      ∙ ap (glued cut (get_or xs first d)) (h ∙ ap (λ l. l ∷ rest) piece)
      ∙ glued_near (get_or xs first d) (get_or xs (first + 1) d) (take (end - (first + 1) - 1) (drop (first + 1 + 1) xs)) rest near
      ∙ ap (λ l. l ∷ rest) (sym longer)

  -- the same at a place that is told by another number
  pub piece_before : (xs : List X) (before first end : ℕ) (d : X) (rest : List (List X)) → before + 1 ≡ first → first < end → end ≤ length xs → cut (get_or xs before d) (get_or xs first d) ≡ false → pieces_of cut (drop first xs) ≡ take (end - first) (drop first xs) ∷ rest → pieces_of cut (drop before xs) ≡ take (end - before) (drop before xs) ∷ rest
  piece_before xs before first end d rest is l le near h =
      longer_piece xs before end d rest (omega arith) le
      (subst (λ n. cut (get_or xs before d) (get_or xs n d) ≡ false) (sym is) near)
      (subst (λ n. pieces_of cut (drop n xs) ≡ take (end - n) (drop n xs) ∷ rest) (sym is) h)

  -- the piece from one place up to another, with no cut between them and one at its end
  pub piece_between : (xs : List X) (first end : ℕ) (d : X) → first < end → end ≤ length xs → ((k : ℕ) (e : X) → first ≤ k → k + 1 < end → cut (get_or xs k e) (get_or xs (k + 1) e) ≡ false) → (end < length xs → cut (get_or xs (end - 1) d) (get_or xs end d) ≡ true) → pieces_of cut (drop first xs) ≡ take (end - first) (drop first xs) ∷ pieces_of cut (drop end xs)
  piece_between xs first end d l le inside edge =
      first_piece (drop first xs) (end - first - 1) (omega (arith, length-drop first xs)) near apart
      ∙ (λ i. take (count i) (drop first xs) ∷ pieces_of cut (behind i))
    where
      count : suc (end - first - 1) ≡ end - first
      count = omega arith

      behind : drop (suc (end - first - 1)) (drop first xs) ≡ drop end xs
      behind = let place : first + suc (end - first - 1) ≡ end = omega arith in drop-drop (suc (end - first - 1)) first xs ∙ ap (λ n. drop n xs) place

      read : (k n : ℕ) (e : X) → first + k ≡ n → get_or (drop first xs) k e ≡ get_or xs n e
      read k n e is = get_or-drop first xs k e ∙ ap (λ m. get_or xs m e) is

      near : (k : ℕ) (e : X) → k < end - first - 1 → cut (get_or (drop first xs) k e) (get_or (drop first xs) (suc k) e) ≡ false
      near k e lt =
          let here = read k (first + k) e refl in
          let next = read (suc k) (first + k + 1) e (omega arith) in
          (λ i. cut (here i) (next i)) ∙ inside (first + k) e (omega arith) (omega arith)

      apart : (e : X) → suc (end - first - 1) < length (drop first xs) → cut (get_or (drop first xs) (end - first - 1) e) (get_or (drop first xs) (suc (end - first - 1)) e) ≡ true
      apart e lt =
          let inner : end < length xs = omega (arith, length-drop first xs) in
          let here = read (end - first - 1) (end - 1) e (omega arith) ∙ get_or_default xs (end - 1) e d (omega arith) in
          let next = read (suc (end - first - 1)) end e (omega arith) ∙ get_or_default xs end e d inner in
          (λ i. cut (here i) (next i)) ∙ edge inner

  -- where there is a cut before a piece, it stands between the pieces before it and those behind it
  pub pieces_around : (xs : List X) (first end : ℕ) (d : X) → 1 ≤ first → first < length xs → cut (get_or xs (first - 1) d) (get_or xs first d) ≡ true → pieces_of cut (drop first xs) ≡ take (end - first) (drop first xs) ∷ pieces_of cut (drop end xs) → pieces_of cut xs ≡ pieces_of cut (take first xs) ++ take (end - first) (drop first xs) ∷ pieces_of cut (drop end xs)
  pieces_around xs first end d some l apart h =
      pieces_split xs (first - 1) (omega arith) edge
      ∙ (λ i. pieces_of cut (take (is i) xs) ++ pieces_of cut (drop (is i) xs))
      ∙ ap (λ pieces. pieces_of cut (take first xs) ++ pieces) h
    where
      is : suc (first - 1) ≡ first
      is = omega arith

      edge : (e : X) → cut (get_or xs (first - 1) e) (get_or xs (suc (first - 1)) e) ≡ true
      edge e =
          let here = get_or_default xs (first - 1) e d (omega arith) in
          let next = ap (λ n. get_or xs n e) is ∙ get_or_default xs first e d l in
          (λ i. cut (here i) (next i)) ∙ apart
