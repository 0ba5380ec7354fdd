-- Sessions after one tuple more.
use Rattle.std.proofs.Common.{◌≡◌, ◌∙◌, ℕ, suc, ◌+◌, ◌-◌, ◌<◌, ◌≤◌, true, false, List, [], ◌∷◌, ◌++◌, length, map, ap, sym, refl, subst, arith, inl, inr, get_or}
use Rattle.std.specs.Prelude.{◌⊎◌, nat_le, nat_lt}
use Rattle.std.specs.List.{All, Contains, flat_map}
use Rattle.std.proofs.lemmas.Bool.{leb-true, leb-false, le-leb, ltb-true, ltb-false, lt-ltb, le-ltb}
use Rattle.std.proofs.lemmas.List.{append-nil, map-append}
use Rattle.std.proofs.lemmas.List.Elements.{All-cons, All-nil, All-head, All-tail, All-weaker, All-contains, Contains-append_cases}
use Rattle.stream_base.specs.declared.kept.Kept.{Kept}
use Rattle.stream_base.specs.Laws.{TimesDoNotFall}
use Rattle.stream_base.specs.Model.Journal.{put_in_order}
use Rattle.stream_base.specs.Model.Windows.{Instance, first_time, last_time, pieces_of, session, sessions}
use Rattle.stream_base.proofs.EventOrder.{All_put}
use Rattle.stream_base.proofs.Members.{Contains-insert_new, map_members}
use Rattle.slice_lists.specs.Runs.{AreParted, IsPutInRuns, IsRun}
use Rattle.window_laws.specs.Sessions.{IsPutInSessions, joined_session}
use Rattle.window_laws.proofs.InstanceFacts.{gap_cut, session_far, session_near, session_runs, All-joined}
use Rattle.slice_lists.proofs.Order.{All-map_of, IsApart, IsNear, nd_cons, nd_head, nd_nil, nd_tail, run_spans, runs_before, runs_behind, All-split, amid, runs_are_runs}
use Rattle.stream_base.proofs.Filters.{cases_of}
use Rattle.slice_lists.proofs.RunFacts.{pieces_after_put, put_behind, put_first}
use Rattle.std.proofs.lemmas.Grind.{flat_map-append}
use Rattle.stream_base.proofs.Pieces.{pieces_joined}

-- times don't fall with one tuple more
pub put_times : (kept : List Kept) (x : Kept) → TimesDoNotFall kept → TimesDoNotFall (put_in_order kept x)
put_times [] x h = nd_cons (λ (y : Kept). y.time) x [] (All-nil (λ (y : Kept). x.time ≤ y.time)) (nd_nil (λ (y : Kept). y.time))
put_times (y ∷ ys) x h = by (cases_of (nat_lt x.time y.time)) (put_times ys x (nd_tail (λ (y : Kept). y.time) y ys h))
  where
    above : All (λ (z : Kept). y.time ≤ z.time) ys
    above = nd_head (λ (y : Kept). y.time) y ys h

    by : (nat_lt x.time y.time ≡ true) ⊎ (nat_lt x.time y.time ≡ false) → TimesDoNotFall (put_in_order ys x) → TimesDoNotFall (put_in_order (y ∷ ys) x)
    by (inl e) later =
        let l : x.time < y.time = ltb-true x.time y.time e in
        subst TimesDoNotFall (sym (put_first y ys x e))
        (nd_cons (λ (y : Kept). y.time) x (y ∷ ys) (All-cons (λ (z : Kept). x.time ≤ z.time) y ys (omega arith) (All-weaker (λ (z : Kept). y.time ≤ z.time) (λ z. x.time ≤ z.time) (λ z m. omega arith) ys above)) h)
    by (inr e) later =
        subst TimesDoNotFall (sym (put_behind y ys x e))
        (nd_cons (λ (y : Kept). y.time) y (put_in_order ys x) (All_put (λ (z : Kept). y.time ≤ z.time) ys x above (ltb-false x.time y.time e)) later)

-- a tuple between two lists
pub put_between : (xs : List Kept) (y : Kept) (ys : List Kept) (x : Kept) → All (λ (z : Kept). z.time ≤ x.time) xs → x.time < y.time → put_in_order (xs ++ y ∷ ys) x ≡ xs ++ x ∷ y ∷ ys
put_between [] y ys x a l = put_first y ys x (lt-ltb x.time y.time l)
put_between (z ∷ zs) y ys x a l =
    put_behind z (zs ++ y ∷ ys) x (le-ltb x.time z.time (All-head (λ (z : Kept). z.time ≤ x.time) z zs a))
    ∙ ap (λ l. z ∷ l) (put_between zs y ys x (All-tail (λ (z : Kept). z.time ≤ x.time) z zs a) l)

module _ (gap : ℕ) (some : 1 ≤ gap) (x : Kept) where
  abbrev Near : ℕ → ℕ → Type 0
  Near = IsNear (gap_cut gap)

  abbrev Apart : ℕ → ℕ → Type 0
  Apart = IsApart (gap_cut gap)

  far : (a b : ℕ) → IsApart (gap_cut gap) a b → a + gap ≤ b
  far a b = session_far gap a b some

  within_gap : (a b : ℕ) → IsNear (gap_cut gap) a b → (a ≤ b) × (b < a + gap)
  within_gap a b h = let l : b - a < gap = leb-false gap (b - a) h.1 in (h.0, omega (arith, h.0))

  run_tail : (y : Kept) (xs : List Kept) → 1 ≤ length xs → IsRun (IsNear (gap_cut gap)) (y ∷ xs) → IsRun (IsNear (gap_cut gap)) xs
  run_tail y [] l r = absurd (omega arith)
  run_tail y (z ∷ zs) l r = r.1

  spans_of : (run : List Kept) → IsRun (IsNear (gap_cut gap)) run → All (λ z. (first_time run ≤ z.time) × (z.time ≤ last_time run)) run × (first_time run ≤ last_time run)
  spans_of = run_spans (IsNear (gap_cut gap)) (IsApart (gap_cut gap)) gap (session_near gap) far

  -- a tuple that enters a run lies less than the gap away from it
  entering : (run : List Kept) → IsRun (IsNear (gap_cut gap)) run → IsRun (IsNear (gap_cut gap)) (put_in_order run x) → (first_time run < x.time + gap) × (x.time < last_time run + gap)
  entering [] r s = absurd r
  entering (y ∷ ys) r s = by (cases_of (nat_lt x.time y.time)) (λ t u. entering ys t u)
    where
      early : nat_lt x.time y.time ≡ true → (y.time < x.time + gap) × (x.time < last_time (y ∷ ys) + gap)
      early e =
          let t : IsRun (IsNear (gap_cut gap)) (x ∷ y ∷ ys) = subst (IsRun (IsNear (gap_cut gap))) (put_first y ys x e) s in
          let g = within_gap x.time y.time t.0 in
          let l = (spans_of (y ∷ ys) r).1 in
          (g.1, omega (arith, g.0, l))

      ends : (ys : List Kept) → y.time ≤ x.time → IsRun (IsNear (gap_cut gap)) (y ∷ ys) → IsRun (IsNear (gap_cut gap)) (y ∷ put_in_order ys x) → (IsRun (IsNear (gap_cut gap)) ys → IsRun (IsNear (gap_cut gap)) (put_in_order ys x) → (first_time ys < x.time + gap) × (x.time < last_time ys + gap)) → x.time < last_time (y ∷ ys) + gap
      ends [] l r t later = (within_gap y.time x.time t.0).1
      ends (z ∷ zs) l r t later = (later r.1 (run_tail y (put_in_order (z ∷ zs) x) (full z zs) t)).1
        where
          full : (z : Kept) (zs : List Kept) → 1 ≤ length (put_in_order (z ∷ zs) x)
          full z zs = let c : Contains (put_in_order (z ∷ zs) x) x = Contains-insert_new (z ∷ zs) _ x in omega (arith, c.1)

      by : (nat_lt x.time y.time ≡ true) ⊎ (nat_lt x.time y.time ≡ false) → (IsRun (IsNear (gap_cut gap)) ys → IsRun (IsNear (gap_cut gap)) (put_in_order ys x) → (first_time ys < x.time + gap) × (x.time < last_time ys + gap)) → (y.time < x.time + gap) × (x.time < last_time (y ∷ ys) + gap)
      by (inl e) later = early e
      by (inr e) later =
          let l : y.time ≤ x.time = ltb-false x.time y.time e in
          (omega arith, ends ys l r (subst (IsRun (IsNear (gap_cut gap))) (put_behind y ys x e) s) later)

  -- a tuple between two runs that it joins
  joining : (run : List Kept) (next : List Kept) → 1 ≤ length run → 1 ≤ length next → IsRun (IsNear (gap_cut gap)) (run ++ x ∷ next) → IsNear (gap_cut gap) (last_time run) x.time × IsNear (gap_cut gap) x.time (first_time next)
  joining [] next l m r = absurd (omega arith)
  joining (y ∷ []) [] l m r = absurd (omega arith)
  joining (y ∷ []) (z ∷ zs) l m r = (r.0, r.1.0)
  joining (y ∷ z ∷ zs) next l m r = joining (z ∷ zs) next (omega arith) m r.1

  run_full : (run : List Kept) → IsRun (IsNear (gap_cut gap)) run → 1 ≤ length run
  run_full [] r = absurd r
  run_full (y ∷ ys) r = omega arith

  behind_of : (before : List (List Kept)) (run : List Kept) (behind : List (List Kept)) → AreParted (IsNear (gap_cut gap)) (IsApart (gap_cut gap)) (before ++ run ∷ behind) → AreParted (IsNear (gap_cut gap)) (IsApart (gap_cut gap)) (run ∷ behind)
  behind_of [] run behind a = a
  behind_of (r ∷ before) run behind a = behind_of before run behind a.2

  -- where the tuple's run stands in the middle, those in front end before it, and those behind begin behind it
  module _ (before : List (List Kept)) (run : List Kept) (behind : List (List Kept)) (a : AreParted (IsNear (gap_cut gap)) (IsApart (gap_cut gap)) (before ++ run ∷ behind)) (c : Contains run x) where
    inside : (first_time run ≤ x.time) × (x.time ≤ last_time run)
    inside = All-contains (λ z. (first_time run ≤ z.time) × (z.time ≤ last_time run)) run x (spans_of run (behind_of before run behind a).0).0 c

    fronts : All (λ (i : Instance). i.high ≤ x.time) (map (session gap) before)
    fronts =
        All-map_of (λ (i : Instance). i.high ≤ x.time) (session gap) before
        (All-weaker (λ r. (last_time r + gap ≤ first_time run) × (first_time r ≤ last_time r)) (λ r. last_time r + gap ≤ x.time) (λ r h. omega (arith, h.0, inside.0)) before
        (runs_before (IsNear (gap_cut gap)) (IsApart (gap_cut gap)) gap (session_near gap) far before run behind a))

    backs : All (λ (i : Instance). x.time + gap ≤ i.low) (map (session gap) behind)
    backs =
        All-map_of (λ (i : Instance). x.time + gap ≤ i.low) (session gap) behind
        (All-weaker (λ r. (last_time run + gap ≤ first_time r) × (first_time r ≤ last_time r)) (λ r. x.time + gap ≤ first_time r) (λ r h. omega (arith, h.0, inside.1)) behind
        (runs_behind (IsNear (gap_cut gap)) (IsApart (gap_cut gap)) gap (session_near gap) far run behind (behind_of before run behind a)))

  was_so : (old before behind : List (List Kept)) → old ≡ before ++ behind → map (session gap) old ≡ map (session gap) before ++ map (session gap) behind
  was_so old before behind e = ap (map (session gap)) e ∙ map-append (session gap) before behind

  -- the session of a run is that of the sessions that it joins
  is_so : (new before : List (List Kept)) (run : List Kept) (behind : List (List Kept)) (near : List Instance) → new ≡ before ++ run ∷ behind → run ≡ put_in_order (flat_map (λ i. i.chosen) near) x → map (session gap) new ≡ map (session gap) before ++ (joined_session gap near x ∷ map (session gap) behind)
  is_so new before run behind near e f = was_so new before (run ∷ behind) e ∙ ap (λ r. map (session gap) before ++ (session gap r ∷ map (session gap) behind)) f

  placed : (old new : List (List Kept)) → AreParted (IsNear (gap_cut gap)) (IsApart (gap_cut gap)) old → AreParted (IsNear (gap_cut gap)) (IsApart (gap_cut gap)) new → IsPutInRuns old x new → IsPutInSessions gap x (map (session gap) old) (map (session gap) new)
  placed old new a b (inl h) =
      let n = subst (AreParted (IsNear (gap_cut gap)) (IsApart (gap_cut gap))) h.is b in
      let c : Contains (x ∷ []) x = (0, omega arith, refl) in
      record {
        front = map (session gap) h.before;
        near = [];
        back = map (session gap) h.behind;
        was = was_so old h.before h.behind h.was;
        is = is_so new h.before (x ∷ []) h.behind [] h.is refl;
        end_before = fronts h.before (x ∷ []) h.behind n c;
        start_near = All-nil (λ (i : Instance). i.low < x.time + gap);
        end_near = All-nil (λ (i : Instance). x.time < i.high);
        start_behind = backs h.before (x ∷ []) h.behind n c;
        at_most_two = omega arith;
      }
  placed old new a b (inr (inl h)) =
      let n = subst (AreParted (IsNear (gap_cut gap)) (IsApart (gap_cut gap))) h.is b in
      let o = subst (AreParted (IsNear (gap_cut gap)) (IsApart (gap_cut gap))) h.was a in
      let c : Contains (put_in_order h.run x) x = Contains-insert_new h.run _ x in
      let g = entering h.run (behind_of h.before h.run h.behind o).0 (behind_of h.before (put_in_order h.run x) h.behind n).0 in
      record {
        front = map (session gap) h.before;
        near = session gap h.run ∷ [];
        back = map (session gap) h.behind;
        was = was_so old h.before (h.run ∷ h.behind) h.was;
        is = is_so new h.before (put_in_order h.run x) h.behind (session gap h.run ∷ []) h.is (ap (λ r. put_in_order r x) (sym (append-nil h.run)));
        end_before = fronts h.before (put_in_order h.run x) h.behind n c;
        start_near = All-cons (λ (i : Instance). i.low < x.time + gap) (session gap h.run) [] g.0 (All-nil (λ (i : Instance). i.low < x.time + gap));
        end_near = All-cons (λ (i : Instance). x.time < i.high) (session gap h.run) [] g.1 (All-nil (λ (i : Instance). x.time < i.high));
        start_behind = backs h.before (put_in_order h.run x) h.behind n c;
        at_most_two = omega arith;
      }
  placed old new a b (inr (inr h)) =
      let n = subst (AreParted (IsNear (gap_cut gap)) (IsApart (gap_cut gap))) h.is b in
      let o = behind_of h.before h.run (h.next ∷ h.behind) (subst (AreParted (IsNear (gap_cut gap)) (IsApart (gap_cut gap))) h.was a) in
      let j = joining h.run h.next (run_full h.run o.0) (run_full h.next o.2.0) (behind_of h.before (h.run ++ x ∷ h.next) h.behind n).0 in
      let p = within_gap (last_time h.run) x.time j.0 in
      let q = within_gap x.time (first_time h.next) j.1 in
      let s = spans_of h.run o.0 in
      let t = spans_of h.next o.2.0 in
      let m : last_time h.run + gap ≤ first_time h.next = far (last_time h.run) (first_time h.next) o.1 in
      let c : Contains (h.run ++ x ∷ h.next) x = amid_has h.run x h.next in
      let one : session gap h.run ∷ session gap h.next ∷ [] ≡ session gap h.run ∷ session gap h.next ∷ [] = refl in
      record {
        front = map (session gap) h.before;
        near = session gap h.run ∷ session gap h.next ∷ [];
        back = map (session gap) h.behind;
        was = was_so old h.before (h.run ∷ h.next ∷ h.behind) h.was;
        is = is_so new h.before (h.run ++ x ∷ h.next) h.behind (session gap h.run ∷ session gap h.next ∷ []) h.is (sym (ap (λ r. put_in_order (h.run ++ r) x) (append-nil h.next) ∙ put_amid h.run h.next (run_full h.next o.2.0) (All-weaker (λ z. (first_time h.run ≤ z.time) × (z.time ≤ last_time h.run)) (λ z. z.time ≤ x.time) (λ z g. omega (arith, g.1, p.0)) h.run s.0) (omega (arith, p.1, m))));
        end_before = fronts h.before (h.run ++ x ∷ h.next) h.behind n c;
        start_near = All-cons (λ (i : Instance). i.low < x.time + gap) (session gap h.run) (session gap h.next ∷ []) (omega (arith, s.1, p.0)) (All-cons (λ (i : Instance). i.low < x.time + gap) (session gap h.next) [] q.1 (All-nil (λ (i : Instance). i.low < x.time + gap)));
        end_near = All-cons (λ (i : Instance). x.time < i.high) (session gap h.run) (session gap h.next ∷ []) p.1 (All-cons (λ (i : Instance). x.time < i.high) (session gap h.next) [] (omega (arith, q.0, t.1)) (All-nil (λ (i : Instance). x.time < i.high)));
        start_behind = backs h.before (h.run ++ x ∷ h.next) h.behind n c;
        at_most_two = omega arith;
      }
    where
      amid_has : (xs : List Kept) (y : Kept) (ys : List Kept) → Contains (xs ++ y ∷ ys) y
      amid_has [] y ys = (0, omega arith, refl)
      amid_has (z ∷ zs) y ys = let h : Contains (zs ++ y ∷ ys) y = amid_has zs y ys in (suc h.0, omega (arith, h.1), h.2)

      put_amid : (xs ys : List Kept) → 1 ≤ length ys → All (λ (z : Kept). z.time ≤ x.time) xs → x.time < first_time ys → put_in_order (xs ++ ys) x ≡ xs ++ x ∷ ys
      put_amid xs [] l a f = absurd (omega arith)
      put_amid xs (y ∷ ys) l a f = put_between xs y ys x a f

pub sessions_after_put : (gap : ℕ) (kept : List Kept) (x : Kept) → 1 ≤ gap → TimesDoNotFall kept → IsPutInSessions gap x (sessions gap kept) (sessions gap (put_in_order kept x))
sessions_after_put gap kept x some h =
    placed gap some x (pieces_of (λ x y. nat_le gap (y.time - x.time)) kept) (pieces_of (λ x y. nat_le gap (y.time - x.time)) (put_in_order kept x))
    (session_runs gap kept h) (session_runs gap (put_in_order kept x) (put_times kept x h))
    (pieces_after_put (λ x y. nat_le gap (y.time - x.time))
    (λ a b c l r e. let g : gap ≤ b.time - a.time = leb-true gap (b.time - a.time) e in le-leb gap (c.time - a.time) (omega arith))
    (λ a b c l r e. let g : gap ≤ c.time - b.time = leb-true gap (c.time - b.time) e in le-leb gap (c.time - a.time) (omega arith))
    kept x)

-- ---- the sides of a session
-- a tuple lies at least the gap in front of a session, in it, or at or behind its end
module _ (gap : ℕ) (some : 1 ≤ gap) where
  abbrev pub Sided : List Kept → Kept → Type 0
  Sided run z = (z.time + gap ≤ first_time run) ⊎ (((first_time run ≤ z.time) × (z.time ≤ last_time run)) ⊎ (last_time run + gap ≤ z.time))

  pub sides : (front : List (List Kept)) (run : List Kept) (back : List (List Kept)) → AreParted (IsNear (gap_cut gap)) (IsApart (gap_cut gap)) (front ++ run ∷ back) → (z : Kept) → Contains (flat_map (λ r. r) (front ++ run ∷ back)) z → (z.time + gap ≤ first_time run) ⊎ (((first_time run ≤ z.time) × (z.time ≤ last_time run)) ⊎ (last_time run + gap ≤ z.time))
  sides front run back a z c =
      elim (Contains-append_cases (flat_map (λ r. r) front) (run ++ flat_map (λ r. r) back) z (subst (λ l. Contains l z) (flat_map-append (λ r. r) front (run ∷ back)) c)) [
        | inl f ↦ inl (All-contains (λ (z : Kept). z.time + gap ≤ first_time run) (flat_map (λ r. r) front) z fronts f)
        | inr g ↦ elim (Contains-append_cases run (flat_map (λ r. r) back) z g) [
          | inl h ↦ inr (inl (All-contains (λ (z : Kept). (first_time run ≤ z.time) × (z.time ≤ last_time run)) run z (spans_of run (behind_of gap some z front run back a).0).0 h))
          | inr h ↦ inr (inr (All-contains (λ (z : Kept). last_time run + gap ≤ z.time) (flat_map (λ r. r) back) z backs h))
        ]
      ]
    where
      spans_of : (run : List Kept) → IsRun (IsNear (gap_cut gap)) run → All (λ z. (first_time run ≤ z.time) × (z.time ≤ last_time run)) run × (first_time run ≤ last_time run)
      spans_of = run_spans (IsNear (gap_cut gap)) (IsApart (gap_cut gap)) gap (session_near gap) (far gap some z)

      all : All (IsRun (IsNear (gap_cut gap))) front × All (IsRun (IsNear (gap_cut gap))) (run ∷ back)
      all = All-split (IsRun (IsNear (gap_cut gap))) front (run ∷ back) (runs_are_runs (IsNear (gap_cut gap)) (IsApart (gap_cut gap)) gap (session_near gap) (far gap some z) (front ++ run ∷ back) a)

      fronts : All (λ (z : Kept). z.time + gap ≤ first_time run) (flat_map (λ r. r) front)
      fronts =
          All-joined (λ (z : Kept). z.time + gap ≤ first_time run) front
          (λ k d l. let b = runs_before (IsNear (gap_cut gap)) (IsApart (gap_cut gap)) gap (session_near gap) (far gap some z) front run back a k d l in
          let r = (spans_of (get_or front k d) (all.0 k d l)).0 in
          λ j e m. omega (arith, b.0, (r j e m).1))

      backs : All (λ (z : Kept). last_time run + gap ≤ z.time) (flat_map (λ r. r) back)
      backs =
          All-joined (λ (z : Kept). last_time run + gap ≤ z.time) back
          (λ k d l. let b = runs_behind (IsNear (gap_cut gap)) (IsApart (gap_cut gap)) gap (session_near gap) (far gap some z) run back (behind_of gap some z front run back a) k d l in
          let r = (spans_of (get_or back k d) (All-tail (IsRun (IsNear (gap_cut gap))) run back all.1 k d l)).0 in
          λ j e m. omega (arith, b.0, (r j e m).0))

pub session_sides : (gap : ℕ) (kept : List Kept) (i : Instance) → 1 ≤ gap → TimesDoNotFall kept → Contains (sessions gap kept) i → (z : Kept) → Contains kept z
    → (z.time + gap ≤ i.low) ⊎ (((i.low ≤ z.time) × (z.time + gap ≤ i.high)) ⊎ (i.high ≤ z.time))
session_sides gap kept i some h c z d =
    let runs : List (List Kept) = pieces_of (λ x y. nat_le gap (y.time - x.time)) kept in
    let m : (run : List Kept) × Contains runs run × (session gap run ≡ i) = map_members (session gap) runs i c in
    let a = amid runs m.0 m.1 in
    let s = sides gap some a.front m.0 a.back (subst (AreParted (IsNear (gap_cut gap)) (IsApart (gap_cut gap))) a.is (session_runs gap kept h)) z (subst (λ l. Contains l z) (sym (pieces_joined (λ x y. nat_le gap (y.time - x.time)) kept) ∙ ap (flat_map (λ r. r)) a.is) d) in
    subst (λ (j : Instance). (z.time + gap ≤ j.low) ⊎ (((j.low ≤ z.time) × (z.time + gap ≤ j.high)) ⊎ (j.high ≤ z.time))) m.2
    (elim s [ inl e ↦ inl e | inr e ↦ inr (elim e [ inl f ↦ inl (f.0, omega (arith, f.1)) | inr f ↦ inr f ]) ])
