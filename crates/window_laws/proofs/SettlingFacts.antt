-- What a tuple or a mark settles, and that it unsettles nothing, by the lists of instances that each kind of window makes.
use Rattle.std.proofs.Common.{◌≡◌, ℕ, ◌+◌, ◌<◌, ◌≤◌, List, ◌∷◌, ◌++◌, ap, sym, subst, arith, inl, inr}
use Rattle.std.specs.List.{Contains}
use Rattle.std.specs.Ordering.{nat_cmp}
use Rattle.std.proofs.lemmas.Bool.{cases_lt}
use Rattle.std.proofs.lemmas.List.Elements.{Contains-append_right, Contains-append_left, Contains-append_cases}
use Rattle.stream_base.specs.declared.limits.TheConstants.{FINAL}
use Rattle.stream_base.specs.declared.kept.Kept.{Kept}
use Rattle.stream_base.specs.Model.Journal.{put_in_order}
use Rattle.stream_base.specs.Model.Windows.{Instance, interval, sessions, spans, stretches}
use Rattle.stream_base.proofs.Members.{Contains-insert_old}
use Rattle.stream_base.proofs.Rising.{Contains-head, Contains-tail, Contains-cons_cases}
use Rattle.stream_base.specs.Model.Changes.{Moment}
use Rattle.window_laws.specs.Positions.{AreKept}
use Rattle.window_laws.proofs.StretchFacts.{stretches_after_mark, stretches_after_put}
use Rattle.window_laws.proofs.HoldingFacts.{session_holding, span_of_other, only_interval, has_interval, session_grows, session_stays}
use Rattle.std.specs.BTreeSet.{insert_key}
use Rattle.window_laws.specs.Stretches.{if_selecting, IsMarkedInStretches, IsPutInStretches}

module _ (lateness : ℕ) (m : Moment) where
  -- each of these instances that holds a time is settled
  abbrev pub AreSettled : List Instance → ℕ → Type 0
  AreSettled is time = (i : Instance) → Contains is i → i.low ≤ time → time < i.high → i.high + lateness ≤ m.water

  -- ---- tumbling and sliding
  module _ (length slide : ℕ) (moves : 1 ≤ slide) (overlaps : slide ≤ length) where
    pub spans_stay_at_put : (y z : Kept) → Contains m.kept z → AreSettled (spans length slide m.kept) z.time → AreSettled (spans length slide (put_in_order m.kept y)) z.time
    spans_stay_at_put y z d s i c l r =
        let j = span_of_other length slide (put_in_order m.kept y) m.kept i z moves overlaps c d l r in
        omega (arith, j.3, s j.0 j.1 (omega (arith, j.2)) (omega (arith, j.3)))

    pub spans_were_at_put : (y z : Kept) → Contains m.kept z → AreSettled (spans length slide (put_in_order m.kept y)) z.time → AreSettled (spans length slide m.kept) z.time
    spans_were_at_put y z d s i c l r =
        let j = span_of_other length slide m.kept (put_in_order m.kept y) i z moves overlaps c (Contains-insert_old m.kept _ y z d) l r in
        omega (arith, j.3, s j.0 j.1 (omega (arith, j.2)) (omega (arith, j.3)))

  -- ---- sessions
  module _ (gap : ℕ) (some : 1 ≤ gap) (a : AreKept m.kept) where
    pub sessions_stay_at_put : (y z : Kept) → m.water ≤ y.time + lateness → Contains m.kept z → AreSettled (sessions gap m.kept) z.time → AreSettled (sessions gap (put_in_order m.kept y)) z.time
    sessions_stay_at_put y z w d s i c l r =
        let j = session_holding gap m.kept z some a.in_order d in
        let g : (j.0).high + lateness ≤ m.water = s j.0 j.1 j.2 j.3 in
        s i (session_stays gap m.kept y some a.in_order i z c l j.0 j.1 j.3 (omega arith)) l r

    pub sessions_were_at_put : (y z : Kept) → Contains m.kept z → AreSettled (sessions gap (put_in_order m.kept y)) z.time → AreSettled (sessions gap m.kept) z.time
    sessions_were_at_put y z d s i c l r =
        let j = session_grows gap m.kept y some a.in_order i z c d l r in
        omega (arith, j.4, s j.0 j.1 j.2 j.3)

  -- ---- stretches between marks
  pub stretches_stay_at_put : (y z : Kept) → y.time < FINAL → m.water ≤ y.time + lateness → Contains m.kept z → AreSettled (stretches m.marks m.kept) z.time → AreSettled (stretches m.marks (put_in_order m.kept y)) z.time
  stretches_stay_at_put y z f w d s i c l r =
      let p : IsPutInStretches m.kept y (stretches m.marks m.kept) (stretches m.marks (put_in_order m.kept y)) = stretches_after_put m.marks m.kept y f in
      elim (Contains-append_cases p.front (interval p.low p.high (put_in_order m.kept y) ∷ p.back) i (subst (λ t. Contains t i) p.is c)) [
        | inl g ↦ s i (subst (λ t. Contains t i) (sym p.was) (Contains-append_left p.front (if_selecting p.low p.high m.kept ++ p.back) i g)) l r
        | inr g ↦ elim (Contains-cons_cases (interval p.low p.high (put_in_order m.kept y)) p.back i g) [
          | inl t ↦ (let low : p.low ≡ i.low = ap (λ (j : Instance). j.low) t in
              let high : p.high ≡ i.high = ap (λ (j : Instance). j.high) t in
              let old : Contains (stretches m.marks m.kept) (interval p.low p.high m.kept) = subst (λ t. Contains t (interval p.low p.high m.kept)) (sym p.was) (Contains-append_right p.front (if_selecting p.low p.high m.kept ++ p.back) (interval p.low p.high m.kept) (Contains-append_left (if_selecting p.low p.high m.kept) p.back (interval p.low p.high m.kept) (has_interval p.low p.high m.kept z d (omega arith) (omega arith)))) in
              let g : p.high + lateness ≤ m.water = s (interval p.low p.high m.kept) old (omega arith) (omega arith) in
              omega arith)
          | inr b ↦ s i (subst (λ t. Contains t i) (sym p.was) (Contains-append_right p.front (if_selecting p.low p.high m.kept ++ p.back) i (Contains-append_right (if_selecting p.low p.high m.kept) p.back i b))) l r
        ]
      ]

  pub stretches_were_at_put : (y z : Kept) → y.time < FINAL → Contains m.kept z → AreSettled (stretches m.marks (put_in_order m.kept y)) z.time → AreSettled (stretches m.marks m.kept) z.time
  stretches_were_at_put y z f d s i c l r =
      let p : IsPutInStretches m.kept y (stretches m.marks m.kept) (stretches m.marks (put_in_order m.kept y)) = stretches_after_put m.marks m.kept y f in
      let one = interval p.low p.high (put_in_order m.kept y) in
      let new : Contains (stretches m.marks (put_in_order m.kept y)) one = subst (λ t. Contains t one) (sym p.is) (Contains-append_right p.front (one ∷ p.back) one (Contains-head one p.back)) in
      elim (Contains-append_cases p.front (if_selecting p.low p.high m.kept ++ p.back) i (subst (λ t. Contains t i) p.was c)) [
        | inl g ↦ s i (subst (λ t. Contains t i) (sym p.is) (Contains-append_left p.front (one ∷ p.back) i g)) l r
        | inr g ↦ elim (Contains-append_cases (if_selecting p.low p.high m.kept) p.back i g) [
          | inl t ↦ (let q = only_interval p.low p.high m.kept i t in
              let g : p.high + lateness ≤ m.water = s one new (omega (arith, q.0)) (omega (arith, q.1)) in
              omega (arith, q.1))
          | inr b ↦ s i (subst (λ t. Contains t i) (sym p.is) (Contains-append_right p.front (one ∷ p.back) i (Contains-tail one p.back i b))) l r
        ]
      ]

  pub stretches_stay_at_mark : (t : ℕ) (z : Kept) → t < FINAL → m.water ≤ t + lateness → Contains m.kept z → AreSettled (stretches m.marks m.kept) z.time → AreSettled (stretches (insert_key nat_cmp m.marks t) m.kept) z.time
  stretches_stay_at_mark t z f w d s i c l r =
      let p : IsMarkedInStretches m.kept t (stretches m.marks m.kept) (stretches (insert_key nat_cmp m.marks t) m.kept) = stretches_after_mark m.marks m.kept t f in
      let parts = if_selecting p.low t m.kept ++ if_selecting t p.high m.kept in
      let whole = interval p.low p.high m.kept in
      let old : p.low ≤ z.time → z.time < p.high → p.high + lateness ≤ m.water = λ low high. s whole (subst (λ u. Contains u whole) (sym p.was) (Contains-append_right p.front (if_selecting p.low p.high m.kept ++ p.back) whole (Contains-append_left (if_selecting p.low p.high m.kept) p.back whole (has_interval p.low p.high m.kept z d low high)))) low high in
      elim (Contains-append_cases p.front (parts ++ p.back) i (subst (λ u. Contains u i) p.is c)) [
        | inl g ↦ s i (subst (λ u. Contains u i) (sym p.was) (Contains-append_left p.front (if_selecting p.low p.high m.kept ++ p.back) i g)) l r
        | inr g ↦ elim (Contains-append_cases parts p.back i g) [
          | inr b ↦ s i (subst (λ u. Contains u i) (sym p.was) (Contains-append_right p.front (if_selecting p.low p.high m.kept ++ p.back) i (Contains-append_right (if_selecting p.low p.high m.kept) p.back i b))) l r
          | inl q ↦ elim (Contains-append_cases (if_selecting p.low t m.kept) (if_selecting t p.high m.kept) i q) [
            | inl u ↦ (let v = only_interval p.low t m.kept i u in let g = old (omega (arith, v.0)) (omega (arith, v.1, p.ends)) in absurd (omega (arith, p.ends)))
            | inr u ↦ (let v = only_interval t p.high m.kept i u in let g = old (omega (arith, v.0, p.starts)) (omega (arith, v.1)) in omega (arith, v.1))
          ]
        ]
      ]

  pub stretches_were_at_mark : (t : ℕ) (z : Kept) → t < FINAL → m.water < t + lateness → Contains m.kept z → AreSettled (stretches (insert_key nat_cmp m.marks t) m.kept) z.time → AreSettled (stretches m.marks m.kept) z.time
  stretches_were_at_mark t z f w d s i c l r =
      let p : IsMarkedInStretches m.kept t (stretches m.marks m.kept) (stretches (insert_key nat_cmp m.marks t) m.kept) = stretches_after_mark m.marks m.kept t f in
      let low_part = if_selecting p.low t m.kept in
      let high_part = if_selecting t p.high m.kept in
      let new : (j : Instance) → Contains (low_part ++ high_part) j → Contains (stretches (insert_key nat_cmp m.marks t) m.kept) j = λ j g. subst (λ u. Contains u j) (sym p.is) (Contains-append_right p.front ((low_part ++ high_part) ++ p.back) j (Contains-append_left (low_part ++ high_part) p.back j g)) in
      elim (Contains-append_cases p.front (if_selecting p.low p.high m.kept ++ p.back) i (subst (λ u. Contains u i) p.was c)) [
        | inl g ↦ s i (subst (λ u. Contains u i) (sym p.is) (Contains-append_left p.front ((low_part ++ high_part) ++ p.back) i g)) l r
        | inr g ↦ elim (Contains-append_cases (if_selecting p.low p.high m.kept) p.back i g) [
          | inr b ↦ s i (subst (λ u. Contains u i) (sym p.is) (Contains-append_right p.front ((low_part ++ high_part) ++ p.back) i (Contains-append_right (low_part ++ high_part) p.back i b))) l r
          | inl q ↦ (let v = only_interval p.low p.high m.kept i q in elim (cases_lt z.time t) [
            | inl n ↦ absurd (let g : t + lateness ≤ m.water = s (interval p.low t m.kept) (new (interval p.low t m.kept) (Contains-append_left low_part high_part (interval p.low t m.kept) (has_interval p.low t m.kept z d (omega (arith, v.0)) n))) (omega (arith, v.0)) n in omega arith)
            | inr n ↦ (let g : p.high + lateness ≤ m.water = s (interval t p.high m.kept) (new (interval t p.high m.kept) (Contains-append_right low_part high_part (interval t p.high m.kept) (has_interval t p.high m.kept z d n (omega (arith, v.1))))) n (omega (arith, v.1)) in omega (arith, v.1))
          ])
        ]
      ]
