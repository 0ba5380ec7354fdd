-- Intervals between successive marks: which there are, and the first behind an edge.
use Rattle.std.proofs.Common.{◌≡◌, ◌∙◌, ℕ, ◌+◌, ◌-◌, ◌<◌, ◌≤◌, Bool, true, false, List, [], ◌∷◌, ◌++◌, length, get_or, ap, sym, refl, subst, ⊎_elim, arith, None, Some}
use Rattle.std.specs.Prelude.{◌⊎◌, nat_le, nat_lt}
use Rattle.std.specs.List.{All, Contains, find}
use Rattle.std.specs.List.Sorted.{IsStrictlySortedBy, IsStrictlyIncreasing}
use Rattle.std.specs.Ordering.{nat_cmp}
use Rattle.std.proofs.lemmas.Bool.{ltb-true, ltb-false, leb-true, leb-false, le-leb, lt-ltb, le-ltb, lt-leb, and_from, and_parts}
use Rattle.std.proofs.lemmas.Cmp.{nat_cmp_total}
use Rattle.std.proofs.lemmas.List.Elements.{All-contains, Contains-get_or, Contains-append_left, Contains-append_right, Contains-append_cases}
use Rattle.std.proofs.lemmas.List.{get_or_default}
use Rattle.std.proofs.lemmas.Map.Keys.{sorted_tail}
use Rattle.std.proofs.lemmas.Map.Lookups.{exact_unsigned}
use Rattle.stream_base.specs.declared.kept.Kept.{Kept}
use Rattle.stream_base.specs.declared.kind.Kind.TheVariants.{Marks}
use Rattle.stream_base.specs.declared.limits.TheConstants.{FINAL, TIME_MAX}
use Rattle.stream_base.specs.Laws.{RiseByStart, TimesDoNotFall}
use Rattle.stream_base.specs.Model.Windows.{Instance, interval, is_within, within, is_selecting, between_times, stretches, instances_of}
use Rattle.stream_base.proofs.Distinct.{lt_from_less}
use Rattle.stream_base.proofs.KindFacts.{instances_rise}
use Rattle.stream_base.proofs.Members.{filter_members, filter_has}
use Rattle.stream_base.proofs.Rising.{none_in_nil, Contains-head, Contains-at_head, Contains-tail, Contains-cons_cases, Contains-from_rising, Contains-rising, below_tail, nat_rising_is_sorted}
use Rattle.stream_base.specs.Places.{IsPlaceOf}
use Rattle.plain_windows.specs.Runs.{edges_of}
use Rattle.plain_windows.proofs.Found.{find_first, find_none, find_agree}
use Rattle.plain_windows.proofs.PlaceFacts.{some_tuple, first_behind, is_behind, marks_do_not_fall}

-- 0, the marks and the final time are the edges
module _ (marks : List ℕ) where
  pub edge_is : (P : ℕ → Type 0) → P 0 → ((m : ℕ) → Contains marks m → P m) → P FINAL → (e : ℕ) → Contains (edges_of marks) e → P e
  unfolding edges_of
  edge_is P zeroth mark final e c =
      ⊎_elim
      (λ d. ⊎_elim (λ same. subst P same zeroth) (λ m. mark e m) (Contains-cons_cases 0 marks e d))
      (λ d. ⊎_elim (λ same. subst P same final) (λ n. absurd (none_in_nil e n)) (Contains-cons_cases FINAL [] e d))
      (Contains-append_cases (0 ∷ marks) (FINAL ∷ []) e (Contains-from_rising nat_cmp (0 ∷ marks ++ FINAL ∷ []) e c))

  pub zero_is_edge : Contains (edges_of marks) 0
  unfolding edges_of
  zero_is_edge = Contains-rising nat_cmp exact_unsigned (0 ∷ marks ++ FINAL ∷ []) 0 (Contains-head 0 (marks ++ FINAL ∷ []))

  pub mark_is_edge : (m : ℕ) → Contains marks m → Contains (edges_of marks) m
  unfolding edges_of
  mark_is_edge m c = Contains-rising nat_cmp exact_unsigned (0 ∷ marks ++ FINAL ∷ []) m (Contains-append_left (0 ∷ marks) (FINAL ∷ []) m (Contains-tail 0 marks m c))

  pub final_is_edge : Contains (edges_of marks) FINAL
  unfolding edges_of
  final_is_edge = Contains-rising nat_cmp exact_unsigned (0 ∷ marks ++ FINAL ∷ []) FINAL (Contains-append_right (0 ∷ marks) (FINAL ∷ []) FINAL (Contains-head FINAL []))

  edges_sorted : IsStrictlySortedBy nat_cmp (edges_of marks)
  unfolding edges_of
  edges_sorted = nat_rising_is_sorted (0 ∷ marks ++ FINAL ∷ [])

  -- the marks before a place lie before its time, and the others don't
  module _ (time place : ℕ) (rising : IsStrictlyIncreasing marks) (before : time < FINAL) (at : IsPlaceOf (λ (m : ℕ). m) marks (time + 1) place) where
    mark_up_to : (m : ℕ) (c : Contains marks m) → m ≤ time → c.0 < place
    mark_up_to m c le = by (nat_lt c.0 place) refl
      where
        by : (b : Bool) → nat_lt c.0 place ≡ b → c.0 < place
        by true e = ltb-true c.0 place e
        by false e = let late : time + 1 ≤ get_or marks c.0 m = at.behind c.0 m (ltb-false c.0 place e) c.1 in absurd (omega (arith, c.2))

    mark_after : (m : ℕ) (c : Contains marks m) → time < m → place ≤ c.0
    mark_after m c lt = is_behind (λ (m : ℕ). m) marks (time + 1) place at c.0 m (omega (arith, c.2))

    pub none_up_to : place ≡ 0 → (e : ℕ) → Contains (edges_of marks) e → e ≤ time → e ≤ 0
    none_up_to none = edge_is (λ e. e ≤ time → e ≤ 0) (λ h. omega arith) (λ m c h. absurd (omega (arith, mark_up_to m c h))) (λ h. absurd (omega arith))

    pub last_up_to : 1 ≤ place → (e : ℕ) → Contains (edges_of marks) e → e ≤ time → e ≤ get_or marks (place - 1) 0
    last_up_to some =
        edge_is (λ e. e ≤ time → e ≤ get_or marks (place - 1) 0) (λ h. omega arith)
        (λ m c h. let below : c.0 < place = mark_up_to m c h in
        let le : get_or marks c.0 m ≤ get_or marks (place - 1) m = marks_do_not_fall marks rising c.0 (place - 1) m (omega arith) (omega (arith, at.within)) in
        let same : get_or marks (place - 1) m ≡ get_or marks (place - 1) 0 = get_or_default marks (place - 1) m 0 (omega (arith, at.within)) in
        omega (arith, c.2))
        (λ h. absurd (omega arith))

    pub none_after : length marks ≤ place → (e : ℕ) → Contains (edges_of marks) e → time < e → FINAL ≤ e
    none_after none = edge_is (λ e. time < e → FINAL ≤ e) (λ h. absurd (omega arith)) (λ m c h. let behind : place ≤ c.0 = mark_after m c h in absurd (omega (arith, c.1))) (λ h. omega arith)

    pub first_after : All (λ m. m ≤ TIME_MAX) marks → place < length marks → (e : ℕ) → Contains (edges_of marks) e → time < e → get_or marks place 0 ≤ e
    first_after most some =
        edge_is (λ e. time < e → get_or marks place 0 ≤ e) (λ h. absurd (omega arith))
        (λ m c h. let behind : place ≤ c.0 = mark_after m c h in
        let le : get_or marks place m ≤ get_or marks c.0 m = marks_do_not_fall marks rising place c.0 m behind c.1 in
        let same : get_or marks place m ≡ get_or marks place 0 = get_or_default marks place m 0 some in
        omega (arith, c.2))
        (λ h. let le : get_or marks place 0 ≤ TIME_MAX = most place 0 some in omega arith)

-- an interval between two successive times of a list
record IsBetween (times : List ℕ) (kept : List Kept) (i : Instance) : Type 0 where
  low : ℕ
  high : ℕ
  from : Contains times low
  to : Contains times high
  rise : low < high
  next : (e : ℕ) → Contains times e → low < e → high ≤ e
  is : interval low high kept ≡ i

below_all : (a : ℕ) (times : List ℕ) → IsStrictlySortedBy nat_cmp (a ∷ times) → (e : ℕ) → Contains times e → a < e
below_all a times s e c = lt_from_less a e (below_tail nat_cmp_total a times s e c)

between_members : (times : List ℕ) (kept : List Kept) → IsStrictlySortedBy nat_cmp times → (i : Instance) → Contains (between_times times kept) i → IsBetween times kept i
between_members [] kept s i c = absurd (none_in_nil i c)
between_members (a ∷ []) kept s i c = absurd (none_in_nil i c)
between_members (a ∷ b ∷ times) kept s i c =
    ⊎_elim
    (λ e. record {
      low = a;
      high = b;
      from = Contains-head a (b ∷ times);
      to = Contains-tail a (b ∷ times) b (Contains-head b times);
      rise = below_all a (b ∷ times) s b (Contains-head b times);
      next = λ x d l. first x l (Contains-cons_cases a (b ∷ times) x d);
      is = e;
    })
    (λ d. let later : IsBetween (b ∷ times) kept i = between_members (b ∷ times) kept (sorted_tail nat_cmp a (b ∷ times) s) i d in
    let above : a < later.low = below_all a (b ∷ times) s later.low later.from in
    record {
      low = later.low;
      high = later.high;
      from = Contains-tail a (b ∷ times) later.low later.from;
      to = Contains-tail a (b ∷ times) later.high later.to;
      rise = later.rise;
      next = λ x f l. ⊎_elim (λ e. absurd (omega arith)) (λ g. later.next x g l) (Contains-cons_cases a (b ∷ times) x f);
      is = later.is;
    })
    (Contains-cons_cases (interval a b kept) (between_times (b ∷ times) kept) i c)
  where
    first : (x : ℕ) → a < x → (a ≡ x) ⊎ Contains (b ∷ times) x → b ≤ x
    first x l h =
        ⊎_elim
        (λ e. absurd (omega arith))
        (λ d. ⊎_elim (λ e. omega arith) (λ g. let lt : b < x = below_all b times (sorted_tail nat_cmp a (b ∷ times) s) x g in omega arith) (Contains-cons_cases b times x d))
        h

between_has : (times : List ℕ) (kept : List Kept) → IsStrictlySortedBy nat_cmp times → (low high : ℕ) → Contains times low → Contains times high → low < high → ((e : ℕ) → Contains times e → low < e → high ≤ e) → Contains (between_times times kept) (interval low high kept)
between_has [] kept s low high c d l next = absurd (none_in_nil low c)
between_has (a ∷ []) kept s low high c d l next =
    ⊎_elim
    (λ e. ⊎_elim (λ f. absurd (omega arith)) (λ n. absurd (none_in_nil high n)) (Contains-cons_cases a [] high d))
    (λ n. absurd (none_in_nil low n))
    (Contains-cons_cases a [] low c)
between_has (a ∷ b ∷ times) kept s low high c d l next =
    ⊎_elim
    (λ e. let up : high ≤ b = next b (Contains-tail a (b ∷ times) b (Contains-head b times)) (omega (arith, lt)) in
    let down : b ≤ high = at_least (later (omega arith)) in
    let end : b ≡ high = omega arith in
    Contains-at_head (interval a b kept) (between_times (b ∷ times) kept) (interval low high kept) (λ i. interval (e i) (end i) kept))
    (λ f. let above : a < low = below_all a (b ∷ times) s low f in
    Contains-tail (interval a b kept) (between_times (b ∷ times) kept) (interval low high kept)
    (between_has (b ∷ times) kept (sorted_tail nat_cmp a (b ∷ times) s) low high f (later (omega arith)) l (λ e k m. next e (Contains-tail a (b ∷ times) e k) m)))
    (Contains-cons_cases a (b ∷ times) low c)
  where
    lt : a < b
    lt = below_all a (b ∷ times) s b (Contains-head b times)

    later : a < high → Contains (b ∷ times) high
    later above = ⊎_elim (λ e. absurd (omega arith)) (λ g. g) (Contains-cons_cases a (b ∷ times) high d)

    at_least : Contains (b ∷ times) high → b ≤ high
    at_least g = ⊎_elim (λ e. omega arith) (λ h. let up : b < high = below_all b times (sorted_tail nat_cmp a (b ∷ times) s) high h in omega arith) (Contains-cons_cases b times high g)

module _ (marks : List ℕ) (kept : List Kept) where
  -- a stretch lies between successive edges and holds a kept tuple
  record IsStretch (i : Instance) : Type 0 where
    low : ℕ
    high : ℕ
    from : Contains (edges_of marks) low
    to : Contains (edges_of marks) high
    rise : low < high
    next : (e : ℕ) → Contains (edges_of marks) e → low < e → high ≤ e
    is : interval low high kept ≡ i
    tuple : Kept
    has : Contains kept tuple
    starts : low ≤ tuple.time
    ends : tuple.time < high

  stretch_members : (i : Instance) → Contains (stretches marks kept) i → IsStretch i
  unfolding edges_of
  stretch_members i c =
      let f : Contains (between_times (edges_of marks) kept) i × (is_selecting i ≡ true) = filter_members is_selecting (between_times (edges_of marks) kept) i c in
      let b : IsBetween (edges_of marks) kept i = between_members (edges_of marks) kept (edges_sorted marks) i f.0 in
      let chosen : 0 < length (within b.low b.high kept) = subst (λ (j : Instance). 0 < length j.chosen) (sym b.is) (ltb-true 0 (length i.chosen) f.1) in
      let x = get_or (within b.low b.high kept) 0 some_tuple in
      let m : Contains kept x × (is_within b.low b.high x ≡ true) = filter_members (is_within b.low b.high) kept x (Contains-get_or (within b.low b.high kept) 0 some_tuple chosen) in
      record {
        low = b.low;
        high = b.high;
        from = b.from;
        to = b.to;
        rise = b.rise;
        next = b.next;
        is = b.is;
        tuple = x;
        has = m.0;
        starts = leb-true b.low x.time (and_parts (nat_le b.low x.time) (nat_lt x.time b.high) m.1).0;
        ends = ltb-true x.time b.high (and_parts (nat_le b.low x.time) (nat_lt x.time b.high) m.1).1;
      }

  stretches_have : (low high : ℕ) → Contains (edges_of marks) low → Contains (edges_of marks) high → low < high → ((e : ℕ) → Contains (edges_of marks) e → low < e → high ≤ e) → (x : Kept) → Contains kept x → low ≤ x.time → x.time < high → Contains (stretches marks kept) (interval low high kept)
  unfolding edges_of
  stretches_have low high c d l next x h starts ends =
      let inside : is_within low high x ≡ true = and_from (nat_le low x.time) (nat_lt x.time high) (le-leb low x.time starts) (lt-ltb x.time high ends) in
      let chosen : Contains (within low high kept) x = filter_has (is_within low high) kept x h inside in
      filter_has is_selecting (between_times (edges_of marks) kept) (interval low high kept) (between_has (edges_of marks) kept (edges_sorted marks) low high c d l next) (lt-ltb 0 (length (within low high kept)) (omega (arith, chosen.1)))

  pub stretches_rise : TimesDoNotFall kept → RiseByStart (stretches marks kept)
  unfolding instances_of
  stretches_rise times = instances_rise Marks kept marks tt times

  module _ (edge place : ℕ) (times : TimesDoNotFall kept) (on : Contains (edges_of marks) edge) (at : IsPlaceOf (λ (x : Kept). x.time) kept edge place) where
    -- no tuple comes at or after the edge
    pub no_stretch_behind : length kept ≤ place → find (λ i. nat_le edge i.low) (stretches marks kept) ≡ None
    no_stretch_behind none =
        find_none (λ i. nat_le edge i.low) (stretches marks kept)
        (λ i c. let s : IsStretch i = stretch_members i c in subst (λ (j : Instance). nat_le edge j.low ≡ false) s.is (early s (nat_le edge s.low) refl))
      where
        early : {i : Instance} (s : IsStretch i) (b : Bool) → nat_le edge s.low ≡ b → nat_le edge s.low ≡ false
        early s true e =
            let reached : edge ≤ (s.tuple).time = omega (arith, leb-true edge s.low e, s.starts) in
            absurd (omega (arith, (first_behind kept edge place s.tuple s.tuple times at s.has reached).0))
        early s false e = e

    -- the stretch of the first tuple at or after the edge
    pub first_stretch_behind : (d : Kept) (low high : ℕ) → place < length kept → Contains (edges_of marks) low → low ≤ (get_or kept place d).time → ((e : ℕ) → Contains (edges_of marks) e → e ≤ (get_or kept place d).time → e ≤ low) → Contains (edges_of marks) high → (get_or kept place d).time < high → ((e : ℕ) → Contains (edges_of marks) e → (get_or kept place d).time < e → high ≤ e) → find (λ i. nat_le edge i.low) (stretches marks kept) ≡ Some (interval low high kept)
    first_stretch_behind d low high some from up_to last to after first =
        find_first (λ i. nat_le edge i.low) (stretches marks kept) (interval low high kept) (stretches_rise times)
        (stretches_have low high from to (omega arith) next (get_or kept place d) (Contains-get_or kept place d some) up_to after)
        (le-leb edge low (last edge on (at.behind place d (omega arith) some)))
        (λ i c l. let s : IsStretch i = stretch_members i c in
        let same : s.low ≡ i.low = ap (λ (j : Instance). j.low) s.is in
        subst (λ (j : Instance). nat_le edge j.low ≡ false) s.is (early s (omega arith) (nat_le edge s.low) refl))
      where
        next : (e : ℕ) → Contains (edges_of marks) e → low < e → high ≤ e
        next e c l = by (nat_le e (get_or kept place d).time) refl
          where
            by : (b : Bool) → nat_le e (get_or kept place d).time ≡ b → high ≤ e
            by true f = let le : e ≤ low = last e c (leb-true e (get_or kept place d).time f) in absurd (omega arith)
            by false f = first e c (leb-false e (get_or kept place d).time f)

        early : {i : Instance} (s : IsStretch i) → s.low < low → (b : Bool) → nat_le edge s.low ≡ b → nat_le edge s.low ≡ false
        early s l true e =
            let reached : edge ≤ (s.tuple).time = omega (arith, leb-true edge s.low e, s.starts) in
            let least : (get_or kept place d).time ≤ (s.tuple).time = (first_behind kept edge place d s.tuple times at s.has reached).1 in
            let end : s.high ≤ low = s.next low from l in
            absurd (omega (arith, s.ends))
        early s l false e = e

  -- no edge lies behind the final time
  edge_at_most : All (λ m. m ≤ TIME_MAX) marks → (e : ℕ) → Contains (edges_of marks) e → e ≤ FINAL
  edge_at_most most = edge_is marks (λ e. e ≤ FINAL) (omega arith) (λ m c. let le : m ≤ TIME_MAX = All-contains (λ m. m ≤ TIME_MAX) marks m most c in omega arith) (omega arith)

  pub no_stretch_beyond : (from : ℕ) → All (λ m. m ≤ TIME_MAX) marks → FINAL < from → find (λ i. nat_le from i.low) (stretches marks kept) ≡ None
  no_stretch_beyond from most lt =
      find_none (λ i. nat_le from i.low) (stretches marks kept)
      (λ i c. let s : IsStretch i = stretch_members i c in subst (λ (j : Instance). nat_le from j.low ≡ false) s.is (lt-leb from s.low (omega (arith, edge_at_most most s.low s.from))))

  pub no_stretch_above : (water : ℕ) → All (λ m. m ≤ TIME_MAX) marks → FINAL ≤ water → find (λ i. nat_lt water i.bound) (stretches marks kept) ≡ None
  no_stretch_above water most le =
      find_none (λ i. nat_lt water i.bound) (stretches marks kept)
      (λ i c. let s : IsStretch i = stretch_members i c in subst (λ (j : Instance). nat_lt water j.bound ≡ false) s.is (le-ltb water s.high (omega (arith, edge_at_most most s.high s.to))))

  -- to start at or after a time is to start at or after the first edge from it on
  pub stretch_from : (from edge : ℕ) → from ≤ edge → ((e : ℕ) → Contains (edges_of marks) e → from ≤ e → edge ≤ e) → find (λ i. nat_le from i.low) (stretches marks kept) ≡ find (λ i. nat_le edge i.low) (stretches marks kept)
  stretch_from from edge le first =
      find_agree (λ i. nat_le from i.low) (λ i. nat_le edge i.low) (stretches marks kept)
      (λ i c. let s : IsStretch i = stretch_members i c in subst (λ (j : Instance). nat_le from j.low ≡ nat_le edge j.low) s.is (alike s (nat_le from s.low) refl))
    where
      alike : {i : Instance} (s : IsStretch i) (b : Bool) → nat_le from s.low ≡ b → nat_le from s.low ≡ nat_le edge s.low
      alike s true e = e ∙ sym (le-leb edge s.low (first s.low s.from (leb-true from s.low e)))
      alike s false e = e ∙ sym (lt-leb edge s.low (let lt : s.low < from = leb-false from s.low e in omega arith))

  -- to end after a watermark is to start at or after the last edge up to it
  pub stretch_above : (water edge : ℕ) → Contains (edges_of marks) edge → edge ≤ water → ((e : ℕ) → Contains (edges_of marks) e → e ≤ water → e ≤ edge) → find (λ i. nat_lt water i.bound) (stretches marks kept) ≡ find (λ i. nat_le edge i.low) (stretches marks kept)
  stretch_above water edge on le last =
      find_agree (λ i. nat_lt water i.bound) (λ i. nat_le edge i.low) (stretches marks kept)
      (λ i c. let s : IsStretch i = stretch_members i c in subst (λ (j : Instance). nat_lt water j.bound ≡ nat_le edge j.low) s.is (alike s (nat_le edge s.low) refl))
    where
      alike : {i : Instance} (s : IsStretch i) (b : Bool) → nat_le edge s.low ≡ b → nat_lt water s.high ≡ nat_le edge s.low
      alike s true e = lt-ltb water s.high (above s (leb-true edge s.low e) (nat_lt water s.high) refl) ∙ sym e
        where
          above : {i : Instance} (s : IsStretch i) → edge ≤ s.low → (b : Bool) → nat_lt water s.high ≡ b → water < s.high
          above s start true f = ltb-true water s.high f
          above s start false f = let up : s.high ≤ edge = last s.high s.to (ltb-false water s.high f) in absurd (omega (arith, s.rise))
      alike s false e = le-ltb water s.high (let end : s.high ≤ edge = s.next edge on (leb-false edge s.low e) in omega arith) ∙ sym e
