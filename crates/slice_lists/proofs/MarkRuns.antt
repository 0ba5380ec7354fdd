-- Slices after one mark more: those with tuples on both sides of it part there.
use Rattle.std.proofs.Common.{◌≡◌, ◌∙◌, ℕ, ◌+◌, ◌<◌, ◌≤◌, Bool, true, false, cond, List, [], ◌∷◌, ◌++◌, ap, sym, refl, subst, arith, inl, inr, append_assoc, Ordering}
use Rattle.std.specs.Prelude.{◌⊎◌, ◌||◌, ◌&&◌, nat_le, nat_lt}
use Rattle.std.specs.BTreeSet.{insert_key}
use Rattle.std.specs.List.{All, filter, flat_map, list_any}
use Rattle.std.specs.Ordering.{match_ordering, nat_cmp}
use Rattle.std.specs.declared.cmp.Ordering.TheVariants.{Less, Equal, Greater}
use Rattle.std.proofs.lemmas.Bool.{and_from, and_left, and_right, cases_lt, le-leb, le-ltb, lt-leb, lt-ltb}
use Rattle.std.proofs.lemmas.List.Elements.{All-cons, All-head, All-nil, All-tail, All-weaker}
use Rattle.std.proofs.lemmas.Map.Lookups.{exact_unsigned}
use Rattle.stream_base.specs.declared.def.Def.{Def}
use Rattle.stream_base.specs.declared.kept.Kept.{Kept}
use Rattle.stream_base.specs.Laws.{TimesDoNotFall}
use Rattle.stream_base.specs.Model.Cuts.{has_cut}
use Rattle.stream_base.specs.Kinds.{cuts_between}
use Rattle.stream_base.specs.Model.Slices.{runs_of}
use Rattle.stream_base.specs.Model.Windows.{first_time, last_time}
use Rattle.stream_base.proofs.Pieces.{pieces_joined}
use Rattle.slice_lists.specs.Runs.{AreParted, AreRuns, IsPartFrom, IsRun, parted_at}
use Rattle.stream_base.proofs.Filters.{filter_all, filter_none}
use Rattle.slice_lists.proofs.Order.{IsApart, IsNear, pieces_in_order, run_spans}
use Rattle.slice_lists.proofs.RunEdits.{runs_are_pieces}
use Rattle.slice_lists.proofs.RunFacts.{cut_earlier, cut_farther}

-- a test of some mark, with one mark more
any_of_more : (p : ℕ → Bool) (marks : List ℕ) (t : ℕ) → list_any p (insert_key nat_cmp marks t) ≡ (list_any p marks || p t)
any_of_more p [] t = by (p t)
  where
    by : (b : Bool) → (b || false) ≡ (false || b)
    by true = refl
    by false = refl
any_of_more p (m ∷ ms) t = by (nat_cmp t m) refl (any_of_more p ms t)
  where
    swapped : (a b c : Bool) → (a || (b || c)) ≡ ((b || c) || a)
    swapped true true c = refl
    swapped true false true = refl
    swapped true false false = refl
    swapped false true c = refl
    swapped false false true = refl
    swapped false false false = refl

    grouped : (b c a : Bool) → (b || (c || a)) ≡ ((b || c) || a)
    grouped true c a = refl
    grouped false c a = refl

    twice : (b c : Bool) → (b || c) ≡ ((b || c) || b)
    twice true c = refl
    twice false true = refl
    twice false false = refl

    by : (o : Ordering) → nat_cmp t m ≡ o → list_any p (insert_key nat_cmp ms t) ≡ (list_any p ms || p t) → list_any p (match_ordering o (t ∷ m ∷ ms) (m ∷ ms) (m ∷ insert_key nat_cmp ms t)) ≡ ((p m || list_any p ms) || p t)
    by Less e later = swapped (p t) (p m) (list_any p ms)
    by Equal e later = twice (p m) (list_any p ms) ∙ ap (λ a. (p m || list_any p ms) || p a) (sym (exact_unsigned t m e))
    by Greater e later = ap (λ b. p m || b) later ∙ grouped (p m) (list_any p ms) (p t)

module _ (windows : List Def) (marks : List ℕ) (t : ℕ) where
  abbrev before : ℕ → ℕ → Bool
  before a b = has_cut windows marks a b

  abbrev after : ℕ → ℕ → Bool
  after a b = has_cut windows (insert_key nat_cmp marks t) a b

  pub cut_of_more : (a b : ℕ) → has_cut windows (insert_key nat_cmp marks t) a b ≡ (has_cut windows marks a b || (nat_lt a t && nat_le t b))
  cut_of_more a b =
      ap (λ c. list_any (λ (w : Def). cuts_between w.kind a b) windows || c) (any_of_more (λ m. nat_lt a m && nat_le m b) marks t)
      ∙ grouped (list_any (λ (w : Def). cuts_between w.kind a b) windows) (list_any (λ m. nat_lt a m && nat_le m b) marks) (nat_lt a t && nat_le t b)
    where
      grouped : (b c a : Bool) → (b || (c || a)) ≡ ((b || c) || a)
      grouped true c a = refl
      grouped false c a = refl

  stays_cut : (a b : ℕ) → has_cut windows marks a b ≡ true → has_cut windows (insert_key nat_cmp marks t) a b ≡ true
  stays_cut a b h = cut_of_more a b ∙ ap (λ c. c || (nat_lt a t && nat_le t b)) h

  newly_cut : (a b : ℕ) → a < t → t ≤ b → has_cut windows (insert_key nat_cmp marks t) a b ≡ true
  newly_cut a b l h = cut_of_more a b ∙ ap (λ c. has_cut windows marks a b || c) (and_from (nat_lt a t) (nat_le t b) (lt-ltb a t l) (le-leb t b h)) ∙ any (has_cut windows marks a b)
    where
      any : (c : Bool) → (c || true) ≡ true
      any true = refl
      any false = refl

  uncut_below : (a b : ℕ) → b < t → has_cut windows marks a b ≡ false → has_cut windows (insert_key nat_cmp marks t) a b ≡ false
  uncut_below a b l h = cut_of_more a b ∙ (λ i. h i || and_right (nat_lt a t) (nat_le t b) (lt-leb t b l) i)

  uncut_above : (a b : ℕ) → t ≤ a → has_cut windows marks a b ≡ false → has_cut windows (insert_key nat_cmp marks t) a b ≡ false
  uncut_above a b l h = cut_of_more a b ∙ (λ i. h i || and_left (nat_lt a t) (nat_le t b) (le-ltb a t l) i)

  low_run : (run : List Kept) → All (λ z. z.time < t) run → IsRun (IsNear before) run → IsRun (λ a b. after a b ≡ false) run
  low_run [] a r = absurd r
  low_run (x ∷ []) a r = tt
  low_run (x ∷ y ∷ ys) a r =
      let b : All (λ (z : Kept). z.time < t) (y ∷ ys) = All-tail (λ (z : Kept). z.time < t) x (y ∷ ys) a in
      (uncut_below x.time y.time (All-head (λ (z : Kept). z.time < t) y ys b) r.0.1, low_run (y ∷ ys) b r.1)

  high_run : (run : List Kept) → All (λ z. t ≤ z.time) run → IsRun (IsNear before) run → IsRun (λ a b. after a b ≡ false) run
  high_run [] a r = absurd r
  high_run (x ∷ []) a r = tt
  high_run (x ∷ y ∷ ys) a r =
      (uncut_above x.time y.time (All-head (λ (z : Kept). t ≤ z.time) x (y ∷ ys) a) r.0.1, high_run (y ∷ ys) (All-tail (λ (z : Kept). t ≤ z.time) x (y ∷ ys) a) r.1)

  -- the two parts of a run
  record IsTwo (run front back : List Kept) : Type 0 where
    joined : run ≡ front ++ back
    first_run : IsRun (IsNear before) front
    last_run : IsRun (IsNear before) back
    below : All (λ z. z.time < t) front
    above : All (λ z. t ≤ z.time) back
    first : first_time front ≡ first_time run
    last : last_time back ≡ last_time run
    ends : last_time front < t
    starts : t ≤ first_time back

  spans_of : (run : List Kept) → IsRun (IsNear before) run → All (λ z. (first_time run ≤ z.time) × (z.time ≤ last_time run)) run × (first_time run ≤ last_time run)
  spans_of = run_spans (IsNear before) (λ a b. a + 0 ≤ b) 0 (λ a b h. h.0) (λ a b h. h)

  two_parts : (run : List Kept) → IsRun (IsNear before) run → first_time run < t → t ≤ last_time run → IsTwo run (filter (λ z. nat_lt z.time t) run) (filter (λ z. nat_le t z.time) run)
  two_parts [] r l h = absurd r
  two_parts (x ∷ []) r l h = absurd (omega arith)
  two_parts (x ∷ y ∷ ys) r l h = elim (cases_lt y.time t) [ inl e ↦ later (two_parts (y ∷ ys) r.1 e h) | inr e ↦ here e ]
    where
      first_in : filter (λ (z : Kept). nat_lt z.time t) (x ∷ y ∷ ys) ≡ x ∷ filter (λ z. nat_lt z.time t) (y ∷ ys)
      first_in = ap (λ b. cond b (x ∷ filter (λ (z : Kept). nat_lt z.time t) (y ∷ ys)) (filter (λ z. nat_lt z.time t) (y ∷ ys))) (lt-ltb x.time t l)

      first_out : filter (λ (z : Kept). nat_le t z.time) (x ∷ y ∷ ys) ≡ filter (λ z. nat_le t z.time) (y ∷ ys)
      first_out = ap (λ b. cond b (x ∷ filter (λ (z : Kept). nat_le t z.time) (y ∷ ys)) (filter (λ z. nat_le t z.time) (y ∷ ys))) (lt-leb t x.time l)

      here : t ≤ y.time → IsTwo (x ∷ y ∷ ys) (filter (λ z. nat_lt z.time t) (x ∷ y ∷ ys)) (filter (λ z. nat_le t z.time) (x ∷ y ∷ ys))
      here e =
          let all : All (λ (z : Kept). t ≤ z.time) (y ∷ ys) = All-weaker (λ (z : Kept). (y.time ≤ z.time) × (z.time ≤ last_time (y ∷ ys))) (λ z. t ≤ z.time) (λ z m. omega (arith, m.0)) (y ∷ ys) (spans_of (y ∷ ys) r.1).0 in
          let none : filter (λ (z : Kept). nat_lt z.time t) (y ∷ ys) ≡ [] = filter_none (λ (z : Kept). nat_lt z.time t) (y ∷ ys) (All-weaker (λ (z : Kept). t ≤ z.time) (λ z. nat_lt z.time t ≡ false) (λ z m. le-ltb z.time t m) (y ∷ ys) all) in
          let whole : filter (λ (z : Kept). nat_le t z.time) (y ∷ ys) ≡ y ∷ ys = filter_all (λ (z : Kept). nat_le t z.time) (y ∷ ys) (All-weaker (λ (z : Kept). t ≤ z.time) (λ z. nat_le t z.time ≡ true) (λ z m. le-leb t z.time m) (y ∷ ys) all) in
          subst (λ q. IsTwo (x ∷ y ∷ ys) (filter (λ z. nat_lt z.time t) (x ∷ y ∷ ys)) q) (sym (first_out ∙ whole))
          (subst (λ p. IsTwo (x ∷ y ∷ ys) p (y ∷ ys)) (sym (first_in ∙ ap (λ l. x ∷ l) none))
          (record {
            joined = refl;
            first_run = tt;
            last_run = r.1;
            below = All-cons (λ (z : Kept). z.time < t) x [] l (All-nil (λ (z : Kept). z.time < t));
            above = all;
            first = refl;
            last = refl;
            ends = l;
            starts = e;
          }))

      later : IsTwo (y ∷ ys) (filter (λ z. nat_lt z.time t) (y ∷ ys)) (filter (λ z. nat_le t z.time) (y ∷ ys)) → IsTwo (x ∷ y ∷ ys) (filter (λ z. nat_lt z.time t) (x ∷ y ∷ ys)) (filter (λ z. nat_le t z.time) (x ∷ y ∷ ys))
      later g =
          subst (λ q. IsTwo (x ∷ y ∷ ys) (filter (λ z. nat_lt z.time t) (x ∷ y ∷ ys)) q) (sym first_out)
          (subst (λ p. IsTwo (x ∷ y ∷ ys) p (filter (λ z. nat_le t z.time) (y ∷ ys))) (sym first_in) (longer (filter (λ z. nat_lt z.time t) (y ∷ ys)) (filter (λ z. nat_le t z.time) (y ∷ ys)) g))
        where
          longer : (p q : List Kept) → IsTwo (y ∷ ys) p q → IsTwo (x ∷ y ∷ ys) (x ∷ p) q
          longer [] q g = absurd g.first_run
          longer (z ∷ zs) q g =
              let same : y ≡ z = cc_head g.joined in
              record {
                joined = ap (λ l. x ∷ l) g.joined;
                first_run = (subst (λ (w : Kept). IsNear before x.time w.time) same r.0, g.first_run);
                last_run = g.last_run;
                below = All-cons (λ (z : Kept). z.time < t) x (z ∷ zs) l g.below;
                above = g.above;
                first = refl;
                last = g.last;
                ends = g.ends;
                starts = g.starts;
              }
            where
              cc_head : y ∷ ys ≡ z ∷ zs ++ q → y ≡ z
              cc_head e = cc

  -- a run stays whole, or parts in two
  record Whole (run : List Kept) : Type 0 where
    is : parted_at t run ≡ run ∷ []
    whole_run : IsRun (λ a b. after a b ≡ false) run

  record InTwo (run : List Kept) : Type 0 where
    front : List Kept
    back : List Kept
    is : parted_at t run ≡ front ∷ back ∷ []
    two : IsTwo run front back

  part : (run : List Kept) → IsRun (IsNear before) run → Whole run ⊎ InTwo run
  part run r = elim (cases_lt (first_time run) t) [
    | inr e ↦ inl (record { is = ap (λ b. cond b both one) (and_left (nat_lt (first_time run) t) (nat_le t (last_time run)) (le-ltb (first_time run) t e)); whole_run = high_run run (All-weaker (λ (z : Kept). (first_time run ≤ z.time) × (z.time ≤ last_time run)) (λ z. t ≤ z.time) (λ z m. omega (arith, m.0)) run (spans_of run r).0) r })
    | inl e ↦ elim (cases_lt (last_time run) t) [
      | inl f ↦ inl (record { is = ap (λ b. cond b both one) (and_right (nat_lt (first_time run) t) (nat_le t (last_time run)) (lt-leb t (last_time run) f)); whole_run = low_run run (All-weaker (λ (z : Kept). (first_time run ≤ z.time) × (z.time ≤ last_time run)) (λ z. z.time < t) (λ z m. omega (arith, m.1)) run (spans_of run r).0) r })
      | inr f ↦ inr (record { front = filter (λ (z : Kept). nat_lt z.time t) run; back = filter (λ (z : Kept). nat_le t z.time) run; is = ap (λ b. cond b both one) (and_from (nat_lt (first_time run) t) (nat_le t (last_time run)) (lt-ltb (first_time run) t e) (le-leb t (last_time run) f)); two = two_parts run r e f })
    ]
  ]
    where
      both : List (List Kept)
      both = filter (λ (z : Kept). nat_lt z.time t) run ∷ filter (λ (z : Kept). nat_le t z.time) run ∷ []

      one : List (List Kept)
      one = run ∷ []

  -- what was apart stays apart
  apart_still : (run last : List Kept) (runs : List (List Kept)) → last_time last ≡ last_time run → IsPartFrom (IsApart before) run runs → All (IsRun (IsNear before)) runs → IsPartFrom (λ a b. after a b ≡ true) last (flat_map (parted_at t) runs)
  apart_still run last [] e c a = tt
  apart_still run last (next ∷ runs) e c a =
      elim (part next (All-head (IsRun (IsNear before)) next runs a)) [
        | inl w ↦ subst (λ l. IsPartFrom (λ a b. after a b ≡ true) last (l ++ flat_map (parted_at t) runs)) (sym w.is) (subst (λ n. after n (first_time next) ≡ true) (sym e) (stays_cut (last_time run) (first_time next) c.1))
        | inr w ↦ subst (λ l. IsPartFrom (λ a b. after a b ≡ true) last (l ++ flat_map (parted_at t) runs)) (sym w.is) (subst (λ n. after n (first_time w.front) ≡ true) (sym e) (subst (λ n. after (last_time run) n ≡ true) (sym (w.two).first) (stays_cut (last_time run) (first_time next) c.1)))
      ]

  runs_all : (runs : List (List Kept)) → AreParted (IsNear before) (IsApart before) runs → All (IsRun (IsNear before)) runs
  runs_all [] a = All-nil (IsRun (IsNear before))
  runs_all (run ∷ runs) a = All-cons (IsRun (IsNear before)) run runs a.0 (runs_all runs a.2)

  parted_are_runs : (runs : List (List Kept)) → AreParted (IsNear before) (IsApart before) runs → AreRuns after (flat_map (parted_at t) runs)
  parted_are_runs [] a = tt
  parted_are_runs (run ∷ runs) a =
      elim (part run a.0) [
        | inl w ↦ subst (λ l. AreRuns after (l ++ flat_map (parted_at t) runs)) (sym w.is) (w.whole_run, apart_still run run runs refl a.1 (runs_all runs a.2), parted_are_runs runs a.2)
        | inr w ↦ subst (λ l. AreRuns after (l ++ flat_map (parted_at t) runs)) (sym w.is) (
          low_run w.front (w.two).below (w.two).first_run,
          newly_cut (last_time w.front) (first_time w.back) (w.two).ends (w.two).starts,
          (high_run w.back (w.two).above (w.two).last_run, apart_still run w.back runs (w.two).last a.1 (runs_all runs a.2), parted_are_runs runs a.2),
        )
      ]

  parted_joined : (runs : List (List Kept)) → AreParted (IsNear before) (IsApart before) runs → flat_map (λ run. run) (flat_map (parted_at t) runs) ≡ flat_map (λ run. run) runs
  parted_joined [] a = refl
  parted_joined (run ∷ runs) a =
      elim (part run a.0) [
        | inl w ↦ ap (λ l. flat_map (λ r. r) (l ++ flat_map (parted_at t) runs)) w.is ∙ ap (λ l. run ++ l) (parted_joined runs a.2)
        | inr w ↦ ap (λ l. flat_map (λ r. r) (l ++ flat_map (parted_at t) runs)) w.is ∙ ap (λ l. w.front ++ (w.back ++ l)) (parted_joined runs a.2) ∙ sym (append_assoc w.front w.back (flat_map (λ r. r) runs)) ∙ ap (λ l. l ++ flat_map (λ r. r) runs) (sym (w.two).joined)
      ]

pub runs_after_mark : (windows : List Def) (marks : List ℕ) (kept : List Kept) (time : ℕ) → TimesDoNotFall kept → runs_of windows (insert_key nat_cmp marks time) kept ≡ flat_map (parted_at time) (runs_of windows marks kept)
runs_after_mark windows marks kept time h =
    let runs = runs_of windows marks kept in
    let a : AreParted (IsNear (has_cut windows marks)) (IsApart (has_cut windows marks)) runs = pieces_in_order (has_cut windows marks) kept h in
    ap (runs_of windows (insert_key nat_cmp marks time)) (sym (parted_joined windows marks time runs a ∙ pieces_joined (λ x y. has_cut windows marks x.time y.time) kept))
    ∙ runs_are_pieces (has_cut windows (insert_key nat_cmp marks time)) (flat_map (parted_at time) runs) (parted_are_runs windows marks time runs a)

-- ---- in the order of the laws
pub later_cut : (windows : List Def) (marks : List ℕ) (a b c : ℕ) → a ≤ b → b ≤ c → has_cut windows marks a b ≡ true → has_cut windows marks a c ≡ true
later_cut windows marks a b c l r = cut_farther a b c l r windows marks

pub earlier_cut : (windows : List Def) (marks : List ℕ) (a b c : ℕ) → a ≤ b → b ≤ c → has_cut windows marks b c ≡ true → has_cut windows marks a c ≡ true
earlier_cut windows marks a b c l r = cut_earlier a b c l r windows marks
