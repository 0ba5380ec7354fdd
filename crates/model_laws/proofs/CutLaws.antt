-- Cuts at equal times, across a time between, and by a new mark.
use Rattle.std.proofs.Common.{◌≡◌, ◌∙◌, ◌⊎◌, ◌||◌, ◌&&◌, ℕ, Bool, true, false, List, [], ◌∷◌, ap, sym, refl, subst, inl, inr, arith, Ordering}
use Rattle.std.specs.declared.cmp.Ordering.TheVariants.{Less, Equal, Greater}
use Rattle.std.specs.BTreeSet.{insert_key}
use Rattle.std.specs.List.{All, list_any}
use Rattle.std.specs.Ordering.{match_ordering, nat_cmp}
use Rattle.std.specs.Prelude.{nat_le, nat_lt}
use Rattle.std.proofs.lemmas.Bool.{cases_lt, false≢true, false_from_ne_true}
use Rattle.std.proofs.lemmas.Map.Lookups.{exact_unsigned}
use Rattle.stream_base.specs.declared.def.Def.{Def}
use Rattle.stream_base.specs.Kinds.{IsKindWithin, cuts_between, is_session}
use Rattle.stream_base.specs.Model.Cuts.{HasCut, has_cut}
use Rattle.stream_base.proofs.CutFacts.{cut_decides}
use Rattle.stream_base.proofs.KindFacts.{cuts_before_or_behind, cuts_tested, no_cut_at_once}

-- ---- equal times
no_cut : (windows : List Def) (marks : List ℕ) (time : ℕ) → All (λ w. IsKindWithin w.kind) windows → HasCut windows marks time time → ⊥
no_cut windows marks time within cut = elim cut [
  | inl w ↦ (let (k, def, l, at, cuts) = w in
      let own : IsKindWithin def.kind = subst (λ (x : Def). IsKindWithin x.kind) at (within k def l) in
      false≢true (sym (no_cut_at_once def.kind time own) ∙ cuts_tested def.kind time time own cuts))
  | inr m ↦ (let (k, mark, l, at, both) = m in omega (arith, both.0, both.1))
]

pub no_cut_at_one_time : (windows : List Def) (marks : List ℕ) (time : ℕ) → All (λ w. IsKindWithin w.kind) windows → has_cut windows marks time time ≡ false
no_cut_at_one_time windows marks time within = false_from_ne_true (has_cut windows marks time time) (λ h. no_cut windows marks time within ((cut_decides windows marks time time within).0 h))

-- ---- a time between
pub cut_before_or_behind : (windows : List Def) (marks : List ℕ) (low time high : ℕ) → All (λ w. is_session w.kind ≡ false) windows → HasCut windows marks low high → HasCut windows marks low time ⊎ HasCut windows marks time high
cut_before_or_behind windows marks low time high none cut = elim cut [
  | inl w ↦ (let (k, def, l, at, cuts) = w in
      elim (cuts_before_or_behind def.kind low time high (subst (λ (x : Def). is_session x.kind ≡ false) at (none k def l)) cuts) [
        | inl before ↦ inl (inl (k, def, l, at, before))
        | inr behind ↦ inr (inl (k, def, l, at, behind))
      ])
  | inr m ↦ (let (k, mark, l, at, both) = m in
      elim (cases_lt time mark) [
        | inl after ↦ inr (inr (k, mark, l, at, (after, both.1)))
        | inr upto ↦ inl (inr (k, mark, l, at, (both.0, upto)))
      ])
]

-- ---- a new mark
or_moves : (a b c : Bool) → (a || (b || c)) ≡ ((b || c) || a)
or_moves true true c = refl
or_moves true false true = refl
or_moves true false false = refl
or_moves false true c = refl
or_moves false false true = refl
or_moves false false false = refl

or_same : (a b : Bool) → (a || b) ≡ ((a || b) || a)
or_same true b = refl
or_same false true = refl
or_same false false = refl

or_groups : (a b c : Bool) → (a || (b || c)) ≡ ((a || b) || c)
or_groups true b c = refl
or_groups false b c = refl

any_with : (p : ℕ → Bool) (m : ℕ) (ks : List ℕ) → list_any p (insert_key nat_cmp ks m) ≡ (list_any p ks || p m)
any_with p m [] = alone (p m)
  where
    alone : (b : Bool) → (b || false) ≡ (false || b)
    alone true = refl
    alone false = refl
any_with p m (k ∷ ks) = by (nat_cmp m k) refl (any_with p m ks)
  where
    by : (r : Ordering) → nat_cmp m k ≡ r → list_any p (insert_key nat_cmp ks m) ≡ (list_any p ks || p m)
        → list_any p (match_ordering r (m ∷ k ∷ ks) (k ∷ ks) (k ∷ insert_key nat_cmp ks m)) ≡ (list_any p (k ∷ ks) || p m)
    by Less e later = or_moves (p m) (p k) (list_any p ks)
    by Equal e later = subst (λ z. (p k || list_any p ks) ≡ ((p k || list_any p ks) || p z)) (sym (exact_unsigned m k e)) (or_same (p k) (list_any p ks))
    by Greater e later = ap (λ b. p k || b) later ∙ or_groups (p k) (list_any p ks) (p m)

pub has_cut_with_mark : (windows : List Def) (marks : List ℕ) (mark low high : ℕ) → has_cut windows (insert_key nat_cmp marks mark) low high ≡ (has_cut windows marks low high || (nat_lt low mark && nat_le mark high))
has_cut_with_mark windows marks mark low high =
    ap (λ b. list_any (λ (w : Def). cuts_between w.kind low high) windows || b) (any_with (λ m. nat_lt low m && nat_le m high) mark marks)
    ∙ or_groups (list_any (λ (w : Def). cuts_between w.kind low high) windows) (list_any (λ m. nat_lt low m && nat_le m high) marks) (nat_lt low mark && nat_le mark high)
