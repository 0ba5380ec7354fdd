-- One tuple more among the pieces of a list in order.
use Rattle.std.proofs.Common.{◌≡◌, ◌∙◌, ℕ, ◌<◌, ◌≤◌, Bool, true, false, cond, List, [], ◌∷◌, ◌++◌, ap, sym, refl, subst, arith, inl, inr}
use Rattle.std.specs.Prelude.{◌⊎◌, nat_lt}
use Rattle.std.proofs.lemmas.Bool.{ltb-true, ltb-false}
use Rattle.stream_base.specs.declared.def.Def.{Def}
use Rattle.stream_base.specs.declared.kept.Kept.{Kept}
use Rattle.stream_base.specs.Model.Cuts.{has_cut}
use Rattle.stream_base.specs.Model.Journal.{put_in_order}
use Rattle.stream_base.specs.Model.Slices.{runs_of}
use Rattle.stream_base.specs.Model.Windows.{glued, pieces_of}
use Rattle.stream_base.proofs.CutFacts.{cut_stays}
use Rattle.stream_base.proofs.EventOrder.{put_in_order_cons}
use Rattle.slice_lists.specs.Runs.{IsPutInRuns}
use Rattle.stream_base.proofs.Filters.{cases_of}

-- a tuple stands before the first, or behind it
pub put_first : (y : Kept) (ys : List Kept) (x : Kept) → nat_lt x.time y.time ≡ true → put_in_order (y ∷ ys) x ≡ x ∷ y ∷ ys
put_first y ys x h = put_in_order_cons y ys x ∙ ap (λ b. cond b (x ∷ y ∷ ys) (y ∷ put_in_order ys x)) h

pub put_behind : (y : Kept) (ys : List Kept) (x : Kept) → nat_lt x.time y.time ≡ false → put_in_order (y ∷ ys) x ≡ y ∷ put_in_order ys x
put_behind y ys x h = put_in_order_cons y ys x ∙ ap (λ b. cond b (x ∷ y ∷ ys) (y ∷ put_in_order ys x)) h

-- more pieces in front
put_in_more : (run : List Kept) (old new : List (List Kept)) (x : Kept) → IsPutInRuns old x new → IsPutInRuns (run ∷ old) x (run ∷ new)
put_in_more run old new x (inl h) = inl (record { before = run ∷ h.before; behind = h.behind; was = ap (λ l. run ∷ l) h.was; is = ap (λ l. run ∷ l) h.is })
put_in_more run old new x (inr (inl h)) = inr (inl (record { before = run ∷ h.before; run = h.run; behind = h.behind; was = ap (λ l. run ∷ l) h.was; is = ap (λ l. run ∷ l) h.is }))
put_in_more run old new x (inr (inr h)) = inr (inr (record { before = run ∷ h.before; run = h.run; next = h.next; behind = h.behind; was = ap (λ l. run ∷ l) h.was; is = ap (λ l. run ∷ l) h.is }))

module _ (cut : Kept → Kept → Bool) (farther : (a b c : Kept) → a.time ≤ b.time → b.time ≤ c.time → cut a b ≡ true → cut a c ≡ true) (earlier : (a b c : Kept) → a.time ≤ b.time → b.time ≤ c.time → cut b c ≡ true → cut a c ≡ true) where
  -- the first piece begins with the first element
  record Begins (y : Kept) (pieces : List (List Kept)) : Type 0 where
    rest : List Kept
    others : List (List Kept)
    is : pieces ≡ (y ∷ rest) ∷ others

  glued_begins : (y : Kept) (pieces : List (List Kept)) → Begins y (glued cut y pieces)
  glued_begins y [] = record { rest = []; others = []; is = refl }
  glued_begins y ([] ∷ pieces) = record { rest = []; others = pieces; is = refl }
  glued_begins y ((z ∷ zs) ∷ pieces) = by (cut y z)
    where
      by : (b : Bool) → Begins y (cond b ((y ∷ []) ∷ (z ∷ zs) ∷ pieces) ((y ∷ z ∷ zs) ∷ pieces))
      by true = record { rest = []; others = (z ∷ zs) ∷ pieces; is = refl }
      by false = record { rest = z ∷ zs; others = pieces; is = refl }

  glued_cut : (h y : Kept) (ys : List Kept) (pieces : List (List Kept)) → cut h y ≡ true → glued cut h ((y ∷ ys) ∷ pieces) ≡ (h ∷ []) ∷ (y ∷ ys) ∷ pieces
  glued_cut h y ys pieces e = ap (λ b. cond b ((h ∷ []) ∷ (y ∷ ys) ∷ pieces) ((h ∷ y ∷ ys) ∷ pieces)) e

  glued_uncut : (h y : Kept) (ys : List Kept) (pieces : List (List Kept)) → cut h y ≡ false → glued cut h ((y ∷ ys) ∷ pieces) ≡ (h ∷ y ∷ ys) ∷ pieces
  glued_uncut h y ys pieces e = ap (λ b. cond b ((h ∷ []) ∷ (y ∷ ys) ∷ pieces) ((h ∷ y ∷ ys) ∷ pieces)) e

  -- a tuple behind the first element, by what becomes of the first piece: it stays, the tuple enters it, or the tuple joins it with the next
  record IsFar (h x : Kept) (old new : List (List Kept)) : Type 0 where
    rest : List Kept
    was_others : List (List Kept)
    others : List (List Kept)
    was : old ≡ (h ∷ rest) ∷ was_others
    is : new ≡ (h ∷ rest) ∷ others
    put : IsPutInRuns was_others x others

  record IsNear (h x : Kept) (old new : List (List Kept)) : Type 0 where
    rest : List Kept
    others : List (List Kept)
    was : old ≡ (h ∷ rest) ∷ others
    is : new ≡ (h ∷ put_in_order rest x) ∷ others

  record IsJoining (h x : Kept) (old new : List (List Kept)) : Type 0 where
    rest : List Kept
    next : List Kept
    others : List (List Kept)
    was : old ≡ (h ∷ rest) ∷ next ∷ others
    is : new ≡ (h ∷ rest ++ x ∷ next) ∷ others

  abbrev IsPlaced : Kept → Kept → List (List Kept) → List (List Kept) → Type 0
  IsPlaced h x old new = IsFar h x old new ⊎ (IsNear h x old new ⊎ IsJoining h x old new)

  put_from_placed : (h x : Kept) (old new : List (List Kept)) → nat_lt x.time h.time ≡ false → IsPlaced h x old new → IsPutInRuns old x new
  put_from_placed h x old new late (inl p) =
      subst (λ o. IsPutInRuns o x new) (sym p.was) (subst (IsPutInRuns ((h ∷ p.rest) ∷ p.was_others) x) (sym p.is) (put_in_more (h ∷ p.rest) p.was_others p.others x p.put))
  put_from_placed h x old new late (inr (inl p)) =
      inr (inl (record { before = []; run = h ∷ p.rest; behind = p.others; was = p.was; is = p.is ∙ ap (λ l. l ∷ p.others) (sym (put_behind h p.rest x late)) }))
  put_from_placed h x old new late (inr (inr p)) =
      inr (inr (record { before = []; run = h ∷ p.rest; next = p.next; behind = p.others; was = p.was; is = p.is }))

  -- the tuple stands just between h and y
  between : (h x y : Kept) (ys : List Kept) (pieces : List (List Kept)) → nat_lt x.time h.time ≡ false → nat_lt x.time y.time ≡ true
      → IsPlaced h x (glued cut h ((y ∷ ys) ∷ pieces)) (glued cut h (glued cut x ((y ∷ ys) ∷ pieces)))
  between h x y ys pieces late early = by (cases_of (cut h x)) (cases_of (cut x y))
    where
      lower : h.time ≤ x.time
      lower = ltb-false x.time h.time late

      upper : x.time ≤ y.time
      upper = let l : x.time < y.time = ltb-true x.time y.time early in omega arith

      crossed : cut h x ≡ true → glued cut h ((y ∷ ys) ∷ pieces) ≡ (h ∷ []) ∷ (y ∷ ys) ∷ pieces
      crossed c = glued_cut h y ys pieces (farther h x y lower upper c)

      crossing : cut x y ≡ true → glued cut h ((y ∷ ys) ∷ pieces) ≡ (h ∷ []) ∷ (y ∷ ys) ∷ pieces
      crossing c = glued_cut h y ys pieces (earlier h x y lower upper c)

      whole : cut h x ≡ false → cut x y ≡ false → (cut h y ≡ true) ⊎ (cut h y ≡ false) → IsPlaced h x (glued cut h ((y ∷ ys) ∷ pieces)) (glued cut h (glued cut x ((y ∷ ys) ∷ pieces)))
      whole a b (inl c) = inr (inr (record { rest = []; next = y ∷ ys; others = pieces; was = glued_cut h y ys pieces c; is = ap (glued cut h) (glued_uncut x y ys pieces b) ∙ glued_uncut h x (y ∷ ys) pieces a }))
      whole a b (inr c) = inr (inl (record { rest = y ∷ ys; others = pieces; was = glued_uncut h y ys pieces c; is = ap (glued cut h) (glued_uncut x y ys pieces b) ∙ glued_uncut h x (y ∷ ys) pieces a ∙ ap (λ l. (h ∷ l) ∷ pieces) (sym (put_first y ys x early)) }))

      by : (cut h x ≡ true) ⊎ (cut h x ≡ false) → (cut x y ≡ true) ⊎ (cut x y ≡ false) → IsPlaced h x (glued cut h ((y ∷ ys) ∷ pieces)) (glued cut h (glued cut x ((y ∷ ys) ∷ pieces)))
      by (inl a) (inl b) = inl (record { rest = []; was_others = (y ∷ ys) ∷ pieces; others = (x ∷ []) ∷ (y ∷ ys) ∷ pieces; was = crossed a; is = ap (glued cut h) (glued_cut x y ys pieces b) ∙ glued_cut h x [] ((y ∷ ys) ∷ pieces) a; put = inl (record { before = []; behind = (y ∷ ys) ∷ pieces; was = refl; is = refl }) })
      by (inl a) (inr b) = inl (record { rest = []; was_others = (y ∷ ys) ∷ pieces; others = (x ∷ y ∷ ys) ∷ pieces; was = crossed a; is = ap (glued cut h) (glued_uncut x y ys pieces b) ∙ glued_cut h x (y ∷ ys) pieces a; put = inr (inl (record { before = []; run = y ∷ ys; behind = pieces; was = refl; is = ap (λ l. l ∷ pieces) (sym (put_first y ys x early)) })) })
      by (inr a) (inl b) = inr (inl (record { rest = []; others = (y ∷ ys) ∷ pieces; was = crossing b; is = ap (glued cut h) (glued_cut x y ys pieces b) ∙ glued_uncut h x [] ((y ∷ ys) ∷ pieces) a }))
      by (inr a) (inr b) = whole a b (cases_of (cut h y))

  -- one element more in front of the first
  placed_more : (h y x : Kept) (old new : List (List Kept)) → nat_lt x.time y.time ≡ false → IsPlaced y x old new → IsPlaced h x (glued cut h old) (glued cut h new)
  placed_more h y x old new late p = by (cases_of (cut h y)) p
    where
      as_far : (rest more : List Kept) (o n : List (List Kept)) → old ≡ (y ∷ rest) ∷ o → new ≡ (y ∷ more) ∷ n → cut h y ≡ true → IsPlaced h x (glued cut h old) (glued cut h new)
      as_far rest more o n was is c =
          inl (record { rest = []; was_others = old; others = new; was = ap (glued cut h) was ∙ glued_cut h y rest o c ∙ ap (λ l. (h ∷ []) ∷ l) (sym was); is = ap (glued cut h) is ∙ glued_cut h y more n c ∙ ap (λ l. (h ∷ []) ∷ l) (sym is); put = put_from_placed y x old new late p })

      by : (cut h y ≡ true) ⊎ (cut h y ≡ false) → IsPlaced y x old new → IsPlaced h x (glued cut h old) (glued cut h new)
      by (inl c) (inl q) = as_far q.rest q.rest q.was_others q.others q.was q.is c
      by (inl c) (inr (inl q)) = as_far q.rest (put_in_order q.rest x) q.others q.others q.was q.is c
      by (inl c) (inr (inr q)) = as_far q.rest (q.rest ++ x ∷ q.next) (q.next ∷ q.others) q.others q.was q.is c
      by (inr c) (inl q) = inl (record { rest = y ∷ q.rest; was_others = q.was_others; others = q.others; was = ap (glued cut h) q.was ∙ glued_uncut h y q.rest q.was_others c; is = ap (glued cut h) q.is ∙ glued_uncut h y q.rest q.others c; put = q.put })
      by (inr c) (inr (inl q)) = inr (inl (record { rest = y ∷ q.rest; others = q.others; was = ap (glued cut h) q.was ∙ glued_uncut h y q.rest q.others c; is = ap (glued cut h) q.is ∙ glued_uncut h y (put_in_order q.rest x) q.others c ∙ ap (λ l. (h ∷ l) ∷ q.others) (sym (put_behind y q.rest x late)) }))
      by (inr c) (inr (inr q)) = inr (inr (record { rest = y ∷ q.rest; next = q.next; others = q.others; was = ap (glued cut h) q.was ∙ glued_uncut h y q.rest (q.next ∷ q.others) c; is = ap (glued cut h) q.is ∙ glued_uncut h y (q.rest ++ x ∷ q.next) q.others c }))

  placed : (h : Kept) (hs : List Kept) (x : Kept) → nat_lt x.time h.time ≡ false → IsPlaced h x (pieces_of cut (h ∷ hs)) (pieces_of cut (h ∷ put_in_order hs x))
  placed h [] x late = by (cases_of (cut h x))
    where
      by : (cut h x ≡ true) ⊎ (cut h x ≡ false) → IsPlaced h x ((h ∷ []) ∷ []) (glued cut h ((x ∷ []) ∷ []))
      by (inl c) = inl (record { rest = []; was_others = []; others = (x ∷ []) ∷ []; was = refl; is = glued_cut h x [] [] c; put = inl (record { before = []; behind = []; was = refl; is = refl }) })
      by (inr c) = inr (inl (record { rest = []; others = []; was = refl; is = glued_uncut h x [] [] c }))
  placed h (y ∷ ys) x late = by (cases_of (nat_lt x.time y.time)) (λ behind. placed y ys x behind)
    where
      first : Begins y (pieces_of cut (y ∷ ys))
      first = glued_begins y (pieces_of cut ys)

      by : (nat_lt x.time y.time ≡ true) ⊎ (nat_lt x.time y.time ≡ false) → (nat_lt x.time y.time ≡ false → IsPlaced y x (pieces_of cut (y ∷ ys)) (pieces_of cut (y ∷ put_in_order ys x)))
          → IsPlaced h x (pieces_of cut (h ∷ y ∷ ys)) (pieces_of cut (h ∷ put_in_order (y ∷ ys) x))
      by (inl early) later =
          subst (λ l. IsPlaced h x (pieces_of cut (h ∷ y ∷ ys)) (pieces_of cut (h ∷ l))) (sym (put_first y ys x early))
          (subst (λ p. IsPlaced h x (glued cut h p) (glued cut h (glued cut x p))) (sym first.is) (between h x y first.rest first.others late early))
      by (inr behind) later =
          subst (λ l. IsPlaced h x (pieces_of cut (h ∷ y ∷ ys)) (pieces_of cut (h ∷ l))) (sym (put_behind y ys x behind))
          (placed_more h y x (pieces_of cut (y ∷ ys)) (pieces_of cut (y ∷ put_in_order ys x)) behind (later behind))

  -- one tuple more among the pieces of a list
  pub pieces_after_put : (kept : List Kept) (x : Kept) → IsPutInRuns (pieces_of cut kept) x (pieces_of cut (put_in_order kept x))
  pieces_after_put [] x = inl (record { before = []; behind = []; was = refl; is = refl })
  pieces_after_put (h ∷ hs) x = by (cases_of (nat_lt x.time h.time))
    where
      first : Begins h (pieces_of cut (h ∷ hs))
      first = glued_begins h (pieces_of cut hs)

      in_front : nat_lt x.time h.time ≡ true → (cut x h ≡ true) ⊎ (cut x h ≡ false) → IsPutInRuns ((h ∷ first.rest) ∷ first.others) x (glued cut x ((h ∷ first.rest) ∷ first.others))
      in_front early (inl c) = inl (record { before = []; behind = (h ∷ first.rest) ∷ first.others; was = refl; is = glued_cut x h first.rest first.others c })
      in_front early (inr c) = inr (inl (record { before = []; run = h ∷ first.rest; behind = first.others; was = refl; is = glued_uncut x h first.rest first.others c ∙ ap (λ l. l ∷ first.others) (sym (put_first h first.rest x early)) }))

      by : (nat_lt x.time h.time ≡ true) ⊎ (nat_lt x.time h.time ≡ false) → IsPutInRuns (pieces_of cut (h ∷ hs)) x (pieces_of cut (put_in_order (h ∷ hs) x))
      by (inl early) =
          subst (λ l. IsPutInRuns (pieces_of cut (h ∷ hs)) x (pieces_of cut l)) (sym (put_first h hs x early))
          (subst (λ p. IsPutInRuns p x (glued cut x p)) (sym first.is) (in_front early (cases_of (cut x h))))
      by (inr behind) =
          subst (λ l. IsPutInRuns (pieces_of cut (h ∷ hs)) x (pieces_of cut l)) (sym (put_behind h hs x behind))
          (put_from_placed h x (pieces_of cut (h ∷ hs)) (pieces_of cut (h ∷ put_in_order hs x)) behind (placed h hs x behind))

-- ---- the cut of definitions and marks
module _ (a b c : ℕ) (l : a ≤ b) (r : b ≤ c) (windows : List Def) (marks : List ℕ) where
  pub cut_farther : has_cut windows marks a b ≡ true → has_cut windows marks a c ≡ true
  cut_farther = cut_stays windows marks a b a c (omega arith) r

  pub cut_earlier : has_cut windows marks b c ≡ true → has_cut windows marks a c ≡ true
  cut_earlier = cut_stays windows marks b c a c l (omega arith)

pub runs_after_put : (windows : List Def) (marks : List ℕ) (kept : List Kept) (x : Kept) → IsPutInRuns (runs_of windows marks kept) x (runs_of windows marks (put_in_order kept x))
runs_after_put windows marks kept x =
    pieces_after_put (λ x y. has_cut windows marks x.time y.time)
    (λ a b c l r. cut_farther a.time b.time c.time l r windows marks) (λ a b c l r. cut_earlier a.time b.time c.time l r windows marks) kept x
