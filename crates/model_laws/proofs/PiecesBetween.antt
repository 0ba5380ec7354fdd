-- Pieces that lie between cuts are the pieces of the list that they make.
use Rattle.std.proofs.Common.{◌≡◌, ◌∙◌, ◌≤◌, Bool, true, false, cond, List, [], ◌∷◌, ◌++◌, length, ap, refl, arith}
use Rattle.std.specs.List.{flat_map}
use Rattle.std.proofs.lemmas.List.Elements.{All-cons, All-head, All-tail}
use Rattle.stream_base.specs.declared.kept.Kept.{Kept}
use Rattle.stream_base.specs.Model.Windows.{glued, pieces_of}
use Rattle.stream_base.specs.Laws.{ArePiecesBetween}
use Rattle.stream_base.proofs.Pieces.{pieces_full, no_cut_inside, cut_between}

module _ (cut : Kept → Kept → Bool) where
  pub pieces_lie_between : (xs : List Kept) → ArePiecesBetween cut (pieces_of cut xs)
  pieces_lie_between xs = record { nonempty = pieces_full cut xs; uncut = no_cut_inside cut xs; apart = cut_between cut xs }

  later_pieces : (piece : List Kept) (pieces : List (List Kept)) → ArePiecesBetween cut (piece ∷ pieces) → ArePiecesBetween cut pieces
  later_pieces piece pieces h = record {
    nonempty = All-tail (λ (p : List Kept). 1 ≤ length p) piece pieces h.nonempty;
    uncut = λ before front a b back after e. h.uncut (piece ∷ before) front a b back after (λ i. piece ∷ e i);
    apart = λ before front a b back after e. h.apart (piece ∷ before) front a b back after (λ i. piece ∷ e i);
  }

  uncut_shorter : (x y : Kept) (ys : List Kept) (pieces : List (List Kept)) → ArePiecesBetween cut ((x ∷ y ∷ ys) ∷ pieces)
      → (before : List (List Kept)) (front : List Kept) (a b : Kept) (back : List Kept) (after : List (List Kept)) → (y ∷ ys) ∷ pieces ≡ before ++ (front ++ a ∷ b ∷ back) ∷ after → cut a b ≡ false
  uncut_shorter x y ys pieces h [] front a b back after e =
      let first : y ∷ ys ≡ front ++ a ∷ b ∷ back = cc in
      let rest : pieces ≡ after = cc in
      h.uncut [] (x ∷ front) a b back after (λ i. (x ∷ first i) ∷ rest i)
  uncut_shorter x y ys pieces h (piece ∷ before) front a b back after e =
      let rest : pieces ≡ before ++ (front ++ a ∷ b ∷ back) ∷ after = cc in
      h.uncut ((x ∷ y ∷ ys) ∷ before) front a b back after (λ i. (x ∷ y ∷ ys) ∷ rest i)

  apart_shorter : (x y : Kept) (ys : List Kept) (pieces : List (List Kept)) → ArePiecesBetween cut ((x ∷ y ∷ ys) ∷ pieces)
      → (before : List (List Kept)) (front : List Kept) (a b : Kept) (back : List Kept) (after : List (List Kept)) → (y ∷ ys) ∷ pieces ≡ before ++ (front ++ a ∷ []) ∷ (b ∷ back) ∷ after → cut a b ≡ true
  apart_shorter x y ys pieces h [] front a b back after e =
      let first : y ∷ ys ≡ front ++ a ∷ [] = cc in
      let rest : pieces ≡ (b ∷ back) ∷ after = cc in
      h.apart [] (x ∷ front) a b back after (λ i. (x ∷ first i) ∷ rest i)
  apart_shorter x y ys pieces h (piece ∷ before) front a b back after e =
      let rest : pieces ≡ before ++ (front ++ a ∷ []) ∷ (b ∷ back) ∷ after = cc in
      h.apart ((x ∷ y ∷ ys) ∷ before) front a b back after (λ i. (x ∷ y ∷ ys) ∷ rest i)

  shorter_piece : (x y : Kept) (ys : List Kept) (pieces : List (List Kept)) → ArePiecesBetween cut ((x ∷ y ∷ ys) ∷ pieces) → ArePiecesBetween cut ((y ∷ ys) ∷ pieces)
  shorter_piece x y ys pieces h = record {
    nonempty = All-cons (λ (p : List Kept). 1 ≤ length p) (y ∷ ys) pieces (omega arith) (All-tail (λ (p : List Kept). 1 ≤ length p) (x ∷ y ∷ ys) pieces h.nonempty);
    uncut = uncut_shorter x y ys pieces h;
    apart = apart_shorter x y ys pieces h;
  }

  glued_apart : (x : Kept) (pieces : List (List Kept)) → ArePiecesBetween cut ((x ∷ []) ∷ pieces) → glued cut x pieces ≡ (x ∷ []) ∷ pieces
  glued_apart x [] h = refl
  glued_apart x ([] ∷ pieces) h = absurd (omega (arith, All-head (λ (p : List Kept). 1 ≤ length p) [] pieces (All-tail (λ (p : List Kept). 1 ≤ length p) (x ∷ []) ([] ∷ pieces) h.nonempty)))
  glued_apart x ((y ∷ ys) ∷ pieces) h =
      let cuts : cut x y ≡ true = h.apart [] [] x y ys pieces refl in
      ap (λ b. cond b ((x ∷ []) ∷ (y ∷ ys) ∷ pieces) ((x ∷ y ∷ ys) ∷ pieces)) cuts

  one_piece : (piece : List Kept) (pieces : List (List Kept)) → pieces_of cut (flat_map (λ p. p) pieces) ≡ pieces → ArePiecesBetween cut (piece ∷ pieces) → pieces_of cut (piece ++ flat_map (λ p. p) pieces) ≡ piece ∷ pieces
  one_piece [] pieces rest h = absurd (omega (arith, All-head (λ (p : List Kept). 1 ≤ length p) [] pieces h.nonempty))
  one_piece (x ∷ []) pieces rest h = ap (glued cut x) rest ∙ glued_apart x pieces h
  one_piece (x ∷ y ∷ ys) pieces rest h =
      let goes : cut x y ≡ false = h.uncut [] [] x y ys pieces refl in
      ap (glued cut x) (one_piece (y ∷ ys) pieces rest (shorter_piece x y ys pieces h))
      ∙ ap (λ b. cond b ((x ∷ []) ∷ (y ∷ ys) ∷ pieces) ((x ∷ y ∷ ys) ∷ pieces)) goes

  pub pieces_between_are_pieces : (pieces : List (List Kept)) → ArePiecesBetween cut pieces → pieces_of cut (flat_map (λ piece. piece) pieces) ≡ pieces
  pieces_between_are_pieces [] h = refl
  pieces_between_are_pieces (piece ∷ pieces) h = one_piece piece pieces (pieces_between_are_pieces pieces (later_pieces piece pieces h)) h
