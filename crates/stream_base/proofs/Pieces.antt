-- The pieces of a list: put together they are the list, and there is a cut just between them.
use Rattle.std.proofs.Common.{◌≡◌, ◌∙◌, ℕ, ◌-◌, ◌<◌, ◌≤◌, Bool, true, false, cond, List, [], ◌∷◌, ◌++◌, length, map, ap, sym, refl, subst, arith}
use Rattle.std.specs.List.{All, flat_map}
use Rattle.std.proofs.lemmas.List.{length_push}
use Rattle.std.proofs.lemmas.List.Elements.{All-cons, All-nil, All-head, All-tail}
use Rattle.std.specs.Prelude.{nat_le}
use Rattle.std.proofs.lemmas.Bool.{leb-true, leb-false}
use Rattle.stream_base.specs.declared.kept.Kept.{Kept}
use Rattle.stream_base.specs.Model.Windows.{glued, pieces_of, session, sessions}
use Rattle.stream_base.specs.Laws.{selections_of}

module _ {X : Type 0} (cut : X → X → Bool) where
  glued_joined : (x : X) (pieces : List (List X)) → flat_map (λ run. run) (glued cut x pieces) ≡ x ∷ flat_map (λ run. run) pieces
  glued_joined x [] = refl
  glued_joined x ([] ∷ pieces) = refl
  glued_joined x ((y ∷ ys) ∷ pieces) = by (cut x y)
    where
      by : (b : Bool) → flat_map (λ run. run) (cond b ((x ∷ []) ∷ (y ∷ ys) ∷ pieces) ((x ∷ y ∷ ys) ∷ pieces)) ≡ x ∷ flat_map (λ run. run) ((y ∷ ys) ∷ pieces)
      by true = refl
      by false = refl

  -- the pieces put together are the list
  pub pieces_joined : (xs : List X) → flat_map (λ run. run) (pieces_of cut xs) ≡ xs
  pieces_joined [] = refl
  pieces_joined (x ∷ xs) = glued_joined x (pieces_of cut xs) ∙ ap (λ l. x ∷ l) (pieces_joined xs)

  glued_full : (x : X) (pieces : List (List X)) → All (λ run. 1 ≤ length run) pieces → All (λ run. 1 ≤ length run) (glued cut x pieces)
  glued_full x [] h = All-cons (λ run. 1 ≤ length run) (x ∷ []) [] (omega arith) h
  glued_full x ([] ∷ pieces) h = absurd (omega (arith, All-head (λ run. 1 ≤ length run) [] pieces h))
  glued_full x ((y ∷ ys) ∷ pieces) h = by (cut x y)
    where
      by : (b : Bool) → All (λ run. 1 ≤ length run) (cond b ((x ∷ []) ∷ (y ∷ ys) ∷ pieces) ((x ∷ y ∷ ys) ∷ pieces))
      by true = All-cons (λ run. 1 ≤ length run) (x ∷ []) ((y ∷ ys) ∷ pieces) (omega arith) h
      by false = All-cons (λ run. 1 ≤ length run) (x ∷ y ∷ ys) pieces (omega arith) (All-tail (λ run. 1 ≤ length run) (y ∷ ys) pieces h)

  -- no piece is empty
  pub pieces_full : (xs : List X) → All (λ run. 1 ≤ length run) (pieces_of cut xs)
  pieces_full [] = All-nil (λ run. 1 ≤ length run)
  pieces_full (x ∷ xs) = glued_full x (pieces_of cut xs) (pieces_full xs)

  -- no cut between neighbours of a list
  abbrev HasNoCut : List X → Type 0
  HasNoCut [] = Unit {0}
  HasNoCut (x ∷ []) = Unit {0}
  HasNoCut (x ∷ y ∷ ys) = (cut x y ≡ false) × HasNoCut (y ∷ ys)

  -- a cut between the end of a list and the beginning of another
  abbrev CutsAcross : List X → List X → Type 0
  CutsAcross run next = (front : List X) (a b : X) (back : List X) → run ≡ front ++ a ∷ [] → next ≡ b ∷ back → cut a b ≡ true

  abbrev AreApart : List (List X) → Type 0
  AreApart [] = Unit {0}
  AreApart (run ∷ []) = Unit {0}
  AreApart (run ∷ next ∷ pieces) = CutsAcross run next × AreApart (next ∷ pieces)

  abbrev NoneHasCut : List (List X) → Type 0
  NoneHasCut [] = Unit {0}
  NoneHasCut (run ∷ pieces) = HasNoCut run × NoneHasCut pieces

  glued_uncut : (x : X) (pieces : List (List X)) → NoneHasCut pieces → NoneHasCut (glued cut x pieces)
  glued_uncut x [] h = (tt, tt)
  glued_uncut x ([] ∷ pieces) h = (tt, h.1)
  glued_uncut x ((y ∷ ys) ∷ pieces) h = by (cut x y) refl
    where
      by : (b : Bool) → cut x y ≡ b → NoneHasCut (cond b ((x ∷ []) ∷ (y ∷ ys) ∷ pieces) ((x ∷ y ∷ ys) ∷ pieces))
      by true e = (tt, h)
      by false e = ((e, h.0), h.1)

  pieces_uncut : (xs : List X) → NoneHasCut (pieces_of cut xs)
  pieces_uncut [] = tt
  pieces_uncut (x ∷ xs) = glued_uncut x (pieces_of cut xs) (pieces_uncut xs)

  one_across : (x : X) (next : List X) (y : X) (ys : List X) → next ≡ y ∷ ys → cut x y ≡ true → CutsAcross (x ∷ []) next
  one_across x next y ys s e [] a b back f g = let p : x ≡ a = cc in let q : y ≡ b = cc in λ i. (ap (λ z. cut z b) (sym p) ∙ ap (cut x) (sym q) ∙ e) i
  one_across x next y ys s e (z ∷ front) a b back f g = let long : length (x ∷ []) ≡ length (z ∷ (front ++ a ∷ [])) = ap length f in absurd (omega (arith, length_push front a))

  longer_across : (x y : X) (ys next : List X) → CutsAcross (y ∷ ys) next → CutsAcross (x ∷ y ∷ ys) next
  longer_across x y ys next h [] a b back f g = let long : length (x ∷ y ∷ ys) ≡ length (a ∷ []) = ap length f in absurd (omega arith)
  longer_across x y ys next h (z ∷ front) a b back f g = let rest : y ∷ ys ≡ front ++ a ∷ [] = cc in h front a b back rest g

  glued_apart : (x : X) (pieces : List (List X)) → All (λ run. 1 ≤ length run) pieces → AreApart pieces → AreApart (glued cut x pieces)
  glued_apart x [] full h = tt
  glued_apart x ([] ∷ pieces) full h = absurd (omega (arith, All-head (λ run. 1 ≤ length run) [] pieces full))
  glued_apart x ((y ∷ ys) ∷ pieces) full h = by (cut x y) refl
    where
      longer : (pieces : List (List X)) → AreApart ((y ∷ ys) ∷ pieces) → AreApart ((x ∷ y ∷ ys) ∷ pieces)
      longer [] h = tt
      longer (next ∷ pieces) h = (longer_across x y ys next h.0, h.1)

      by : (b : Bool) → cut x y ≡ b → AreApart (cond b ((x ∷ []) ∷ (y ∷ ys) ∷ pieces) ((x ∷ y ∷ ys) ∷ pieces))
      by true e = (one_across x (y ∷ ys) y ys refl e, h)
      by false e = longer pieces h

  pieces_apart : (xs : List X) → AreApart (pieces_of cut xs)
  pieces_apart [] = tt
  pieces_apart (x ∷ xs) = glued_apart x (pieces_of cut xs) (pieces_full xs) (pieces_apart xs)

  neighbours_uncut : (front : List X) (a b : X) (back : List X) → HasNoCut (front ++ a ∷ b ∷ back) → cut a b ≡ false
  neighbours_uncut [] a b back h = h.0
  neighbours_uncut (x ∷ []) a b back h = h.1.0
  neighbours_uncut (x ∷ y ∷ front) a b back h = neighbours_uncut (y ∷ front) a b back h.1

  piece_uncut : (before : List (List X)) (run : List X) (after : List (List X)) → NoneHasCut (before ++ run ∷ after) → HasNoCut run
  piece_uncut [] run after h = h.0
  piece_uncut (p ∷ before) run after h = piece_uncut before run after h.1

  pieces_across : (before : List (List X)) (run next : List X) (after : List (List X)) → AreApart (before ++ run ∷ next ∷ after) → CutsAcross run next
  pieces_across [] run next after h = h.0
  pieces_across (p ∷ []) run next after h = h.1.0
  pieces_across (p ∷ q ∷ before) run next after h = pieces_across (q ∷ before) run next after h.1

  -- there is no cut between neighbours of one piece
  pub no_cut_inside : (xs : List X) (before : List (List X)) (front : List X) (a b : X) (back : List X) (after : List (List X)) → pieces_of cut xs ≡ before ++ (front ++ a ∷ b ∷ back) ∷ after → cut a b ≡ false
  no_cut_inside xs before front a b back after e = neighbours_uncut front a b back (piece_uncut before (front ++ a ∷ b ∷ back) after (subst NoneHasCut e (pieces_uncut xs)))

  -- there is a cut between the last of a piece and the first of the next
  pub cut_between : (xs : List X) (before : List (List X)) (front : List X) (a b : X) (back : List X) (after : List (List X)) → pieces_of cut xs ≡ before ++ (front ++ a ∷ []) ∷ (b ∷ back) ∷ after → cut a b ≡ true
  cut_between xs before front a b back after e = pieces_across before (front ++ a ∷ []) (b ∷ back) after (subst AreApart e (pieces_apart xs)) front a b back refl refl

-- ---- sessions
session_selections : (gap : ℕ) (kept : List Kept) → selections_of (sessions gap kept) ≡ pieces_of (λ x y. nat_le gap (y.time - x.time)) kept
session_selections gap kept = each (pieces_of (λ x y. nat_le gap (y.time - x.time)) kept)
  where
    each : (pieces : List (List Kept)) → map (λ i. i.chosen) (map (session gap) pieces) ≡ pieces
    each [] = refl
    each (run ∷ pieces) = λ i. run ∷ each pieces i

pub sessions_joined : (gap : ℕ) (kept : List Kept) → flat_map (λ i. i.chosen) (sessions gap kept) ≡ kept
sessions_joined gap kept = each (pieces_of (λ x y. nat_le gap (y.time - x.time)) kept) ∙ pieces_joined (λ x y. nat_le gap (y.time - x.time)) kept
  where
    each : (pieces : List (List Kept)) → flat_map (λ i. i.chosen) (map (session gap) pieces) ≡ flat_map (λ run. run) pieces
    each [] = refl
    each (run ∷ pieces) = ap (λ l. run ++ l) (each pieces)

pub near_in_session : (gap : ℕ) (kept : List Kept) (before : List (List Kept)) (front : List Kept) (a b : Kept) (back : List Kept) (after : List (List Kept)) → selections_of (sessions gap kept) ≡ before ++ (front ++ a ∷ b ∷ back) ∷ after → b.time - a.time < gap
near_in_session gap kept before front a b back after e = leb-false gap (b.time - a.time) (no_cut_inside (λ x y. nat_le gap (y.time - x.time)) kept before front a b back after (sym (session_selections gap kept) ∙ e))

pub apart_in_sessions : (gap : ℕ) (kept : List Kept) (before : List (List Kept)) (front : List Kept) (a b : Kept) (back : List Kept) (after : List (List Kept)) → selections_of (sessions gap kept) ≡ before ++ (front ++ a ∷ []) ∷ (b ∷ back) ∷ after → gap ≤ b.time - a.time
apart_in_sessions gap kept before front a b back after e = leb-true gap (b.time - a.time) (cut_between (λ x y. nat_le gap (y.time - x.time)) kept before front a b back after (sym (session_selections gap kept) ∙ e))
