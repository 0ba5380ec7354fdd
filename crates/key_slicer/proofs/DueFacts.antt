-- What is due of a key stays where a tuple joins a slice of tumbling and sliding windows.
use Rattle.std.proofs.Common.{◌≡◌, ◌∙◌, ◌<◌, ◌≤◌, ◌+◌, ◌-◌, ◌*◌, ℕ, suc, Bool, true, false, not, List, [], ◌∷◌, length, get_or, ap, arith, refl, sym, subst, inl, inr, ⊎_elim}
use Rattle.std.specs.Prelude.{◌||◌, All, filter, nat_lt, if◌then◌else◌}
use Rattle.std.specs.List.{Contains, enumerate_from, flat_map}
use Rattle.std.proofs.lemmas.Bool.{cases_Bool, cases_lt, false_from_ne_true, false≢true, le-ltb, leb-true}
use Rattle.std.proofs.lemmas.List.Elements.{All-contains}
use Rattle.stream_base.specs.declared.def.Def.{Def}
use Rattle.stream_base.specs.declared.kept.Kept.{Kept}
use Rattle.stream_base.specs.declared.kind.Kind.{Kind}
use Rattle.stream_base.specs.declared.kind.Kind.TheVariants.{Tumbling, Sliding}
use Rattle.stream_base.specs.Laws.{HoldsTime, TimesDoNotFall, completions}
use Rattle.stream_base.specs.Kinds.{length_of, slide_of, CutsBetween, IsKindWithin, is_timed}
use Rattle.stream_base.specs.Model.Changes.{Moment}
use Rattle.stream_base.specs.Model.Cuts.{has_cut}
use Rattle.stream_base.specs.Model.Journal.{put_in_order}
use Rattle.stream_base.specs.Model.Windows.{Instance, first_time, instances_of, interval, last_time, spans, starts_of}
use Rattle.stream_base.proofs.CutFacts.{cut_decides}
use Rattle.stream_base.proofs.Rising.{Contains-head}
use Rattle.stream_base.proofs.Spans.{starts_after_put, starts_hold_kept}
use Rattle.stream_base.specs.Limits.{Definitions}
use Rattle.stream_base.specs.Model.Slices.{is_settled, is_settled_in, unsettled}
use Rattle.stream_base.proofs.ChangeFacts.{changes_at_water}
use Rattle.stream_base.proofs.Distinct.{All_from_members}
use Rattle.stream_base.proofs.Members.{Contains-insert_cases, Contains-insert_new, Contains-insert_old, filter_has, filter_members, filter_same, flat_map_has, map_has, map_members}
use Rattle.stream_base.specs.Model.Moments.{IsWater, moment}
use Rattle.window_laws.specs.After.{at_water, with_tuple}
use Rattle.window_laws.specs.Positions.{AreKept}
use Rattle.window_laws.specs.Settled.{IsSettledAt}
use Rattle.window_laws.proofs.SettledFacts.{all_from, all_member, settled_before, settled_by_times, times_settle}
use Rattle.window_laws.proofs.SettledMoves.{tuple_settles_no_other}
use Rattle.window_laws.proofs.HoldingFacts.{span_of_other}
use Rattle.slice_lists.specs.Runs.{IsRun}
use Rattle.slice_lists.proofs.Order.{runs_are_runs}
use Rattle.slice_lists.specs.Touched.{is_near}
use Rattle.slice_lists.proofs.SliceOrder.{IsApart, IsNear, first_below_last, times_of_order}
use Rattle.agg_store.specs.Entered.{slices_near}
use Rattle.agg_store.specs.Stored.{IsStore, Stored, tuples_of}
use Rattle.slice_store.specs.Placing.{is_last, placed_in}
use Rattle.slice_store.specs.declared.placed.Placed.TheVariants.{Appended}
use Rattle.key_windows.specs.Calls.{changes_by_move}
use Rattle.key_windows.specs.Dues.{IsExact}
use Rattle.key_parts.specs.Calls.{Standing, StandsAt, window_at}
use Rattle.key_parts.specs.Held.{IsHeld}
use Rattle.held_laws.specs.Settling.{NoneSettled}
use Rattle.held_laws.proofs.AlikeFacts.{of_rest}
use Rattle.key_slicer.specs.Joining.{Joins}
use Rattle.key_slicer.specs.States.{Fits}
use Rattle.key_slicer.proofs.StateFacts.{fits_waiting, move_is}
use Rattle.stream_base.proofs.KindFacts.{timed_counts_not, timed_cuts, timed_instances, timed_within}
use Rattle.plain_windows.specs.Changing.{HasBound, KeepsBounds}
use Rattle.plain_windows.proofs.Ahead.{ahead_of_none, nothing_ahead}
use Rattle.plain_windows.proofs.Bounds.{last_of}

-- ---- a tuple that joins
-- each instance that holds it held the one before it
span_joins : (long slide : ℕ) (kept : List Kept) (x y : Kept) → 1 ≤ slide → slide ≤ long → Contains kept y → y.time ≤ x.time → ((k : ℕ) → y.time < k * slide → k * slide ≤ x.time → ⊥)
    → (i : Instance) → Contains (spans long slide (put_in_order kept x)) i → HasBound (spans long slide kept) i.bound
span_joins long slide kept x y moves overlaps has behind none i c =
    let m : (low : ℕ) × Contains (starts_of long slide (put_in_order kept x)) low × (interval low (low + long) (put_in_order kept x) ≡ i) = map_members (λ low. interval low (low + long) (put_in_order kept x)) (starts_of long slide (put_in_order kept x)) i c in
    let bound : m.0 + long ≡ i.bound = ap (λ (j : Instance). j.bound) m.2 in
    let there : Contains (starts_of long slide kept) m.0 → HasBound (spans long slide kept) i.bound = λ old. (interval m.0 (m.0 + long) kept, map_has (λ low. interval low (low + long) kept) (starts_of long slide kept) m.0 old, bound) in
    ⊎_elim there (λ h. there (joined m.0 h)) ((starts_after_put long slide kept x m.0 moves overlaps).0 m.1)
  where
    joined : (low : ℕ) → HoldsTime long slide x.time low → Contains (starts_of long slide kept) low
    joined low h =
        let start : low ≤ y.time = ⊎_elim (λ late. absurd (none h.0 (subst (λ n. y.time < n) h.1 late) (subst (λ n. n ≤ x.time) h.1 h.2))) (λ l. l) (cases_lt y.time low) in
        (starts_hold_kept long slide kept low moves overlaps).1 (h.0, y, has, h.1, start, omega (arith, h.3))

joins_ahead : (kind : Kind) (kept : List Kept) (marks : List ℕ) (water due : ℕ) (x y : Kept) → IsKindWithin kind → is_timed kind ≡ true → Contains kept y → y.time ≤ x.time → (CutsBetween kind y.time x.time → ⊥)
    → ((i : Instance) → Contains (instances_of kind kept marks) i → water < i.bound → due ≤ i.bound)
    → (i : Instance) → Contains (instances_of kind (put_in_order kept x) marks) i → water < i.bound → due ≤ i.bound
joins_ahead kind kept marks water due x y within timed has behind none old i c h =
    let w = timed_within kind timed within in
    let b : HasBound (spans (length_of kind) (slide_of kind) kept) i.bound =
    span_joins (length_of kind) (slide_of kind) kept x y w.0 w.1 has behind (λ k l g. none (timed_cuts kind y.time x.time timed (k, inl (l, g)))) i (subst (λ is. Contains is i) (timed_instances kind (put_in_order kept x) marks timed) c) in
    let le : due ≤ (b.0).bound = old b.0 (subst (λ is. Contains is b.0) (sym (timed_instances kind kept marks timed)) b.1) (omega (arith, b.2)) in
    omega (arith, b.2)

-- what was ahead still is, and so a move that completed nothing completes nothing
pub still_none : (windows : List Def) (cuts : List ℕ) (key : List ℕ) (m : Moment) (new : ℕ) (x y : Kept) → All (λ w. IsKindWithin w.kind) windows → All (λ w. is_timed w.kind ≡ true) windows
    → Contains m.kept y → y.time ≤ x.time → has_cut windows cuts y.time x.time ≡ false
    → flat_map (completions key m new) (enumerate_from 0 windows) ≡ [] → flat_map (completions key (with_tuple m x) new) (enumerate_from 0 windows) ≡ []
still_none windows cuts key m new x y within timed has behind no_cut none =
    nothing_ahead windows key (with_tuple m x) (new + 1) new
    (λ def i of c above.
    joins_ahead def.kind m.kept m.marks m.water (new + 1) x y
    (All-contains (λ (w : Def). IsKindWithin w.kind) windows def within of)
    (All-contains (λ (w : Def). is_timed w.kind ≡ true) windows def timed of)
    has behind
    (λ cut. absurd (
    let yes : has_cut windows cuts y.time x.time ≡ true = (cut_decides windows cuts y.time x.time within).1 (inl (of.0, def, of.1, of.2, cut)) in
    cc))
    (λ j d l. ahead_of_none windows key m new none def j of d l) i c above)
    (omega arith)

-- ---- the state of a key
of_key : (d : Definitions) (m : Moment) (n : ℕ) (s : Stored) → IsHeld d m n s → (x : Kept) → Contains (tuples_of s) x → Contains m.kept x
of_key d m n s h x c = of_rest d m n h.may_leave x (subst (λ l. Contains l x) h.tuples c)

-- where none of a store is settled, none is with a tuple that joins
open_joined : (d : Definitions) (m : Moment) (n : ℕ) (s : Stored) (x : Kept) → IsHeld d m n s → AreKept (put_in_order m.kept x) → Joins d.windows s x.time → NoneSettled d m s
    → (y : Kept) → Contains (put_in_order (tuples_of s) x) y → is_settled d (with_tuple m x) y ≡ false
open_joined d m n s x h put_kept joins none y c = elim (Contains-insert_cases (tuples_of s) _ x y c) [ inl e ↦ subst (λ z. is_settled d (with_tuple m x) z ≡ false) e own | inr b ↦ other y b ]
  where
    other : (y : Kept) → Contains (tuples_of s) y → is_settled d (with_tuple m x) y ≡ false
    other y c = false_from_ne_true (is_settled d (with_tuple m x) y) (λ g. false≢true (sym (All-contains (λ y. is_settled d m y ≡ false) (tuples_of s) y none c) ∙ tuple_settles_no_other d m x y (h.may_leave).kinds (h.may_leave).kept put_kept (of_key d m n s h y c) g))

    own : is_settled d (with_tuple m x) x ≡ false
    own = false_from_ne_true (is_settled d (with_tuple m x) x) (λ g. false≢true (sym (other joins.last joins.has)
        ∙ settled_before d (with_tuple m x) joins.last x (h.may_leave).kinds put_kept (Contains-insert_old m.kept _ x joins.last (of_key d m n s h joins.last joins.has)) (Contains-insert_new m.kept _ x) joins.behind g))

module _ {P : Type 0} (stands : Standing P) (d : Definitions) (key : List ℕ) (kept : List Kept) (marks : List ℕ) (water new next later : ℕ) (s after : Stored) (parts others : List P) (x : Kept)
    (old : Fits stands d kept marks water next s parts) (now : Fits stands d (put_in_order kept x) marks water later after others)
    (timed : All (λ w. is_timed w.kind ≡ true) d.windows) (joins : Joins d.windows s x.time) (rises : water ≤ new) where
  kinds : All (λ w. IsKindWithin w.kind) d.windows
  kinds = old.known.held.may_leave.kinds

  -- a move that completed nothing completes nothing with the tuple
  pub none_with_tuple : changes_by_move d key kept marks water new ≡ [] → flat_map (completions key (moment (put_in_order kept x) marks water) new) (enumerate_from 0 d.windows) ≡ []
  none_with_tuple none = still_none d.windows s.marks key (moment kept marks water) new x joins.last kinds timed
      (of_key d (moment kept marks water) old.known.without s old.known.held joins.last joins.has) joins.behind joins.no_cut
      (sym (move_is d key kept marks water new next kinds old.known.lists rises) ∙ none)

  pub quiet_with_tuple : changes_by_move d key kept marks water new ≡ [] → changes_by_move d key (put_in_order kept x) marks water new ≡ []
  quiet_with_tuple none = move_is d key (put_in_order kept x) marks water new later kinds now.known.lists rises ∙ none_with_tuple none

  -- and where the state stood as it was at a later watermark, it does with the tuple
  pub waits_with_tuple : ((d : Definitions) (window : ℕ) (key : List ℕ) (m : Moment) (n : ℕ) (s : Stored) (part : P) (new : ℕ) → StandsAt stands d window m.water s part m n → m.water ≤ new
      → completions key m new (window, window_at d window) ≡ [] → stands d window (at_water m new) n s part)
      → tuples_of after ≡ put_in_order (tuples_of s) x → IsWater new → changes_by_move d key kept marks water new ≡ [] → Fits stands d kept marks new next s parts → Fits stands d (put_in_order kept x) marks new later after others
  waits_with_tuple law tuples is none far = fits_waiting stands d law key (put_in_order kept x) marks water new later after others rises is (none_with_tuple none)
      (subst (All (λ y. is_settled d (moment (put_in_order kept x) marks new) y ≡ false)) (sym tuples)
      (All_from_members (λ y. is_settled d (moment (put_in_order kept x) marks new) y ≡ false) (put_in_order (tuples_of s) x)
      (open_joined d (moment kept marks new) far.known.without s x far.known.held now.known.lists.kept joins far.none_settled)))
      now.known

-- ---- what comes is left as it was by a tuple of tumbling and sliding windows
-- each instance has one of the same bound
span_stays : (long slide : ℕ) (kept : List Kept) (x : Kept) → 1 ≤ slide → slide ≤ long → (i : Instance) → Contains (spans long slide kept) i → HasBound (spans long slide (put_in_order kept x)) i.bound
span_stays long slide kept x moves overlaps i c =
    let m : (low : ℕ) × Contains (starts_of long slide kept) low × (interval low (low + long) kept ≡ i) = map_members (λ low. interval low (low + long) kept) (starts_of long slide kept) i c in (
      interval m.0 (m.0 + long) (put_in_order kept x),
      map_has (λ low. interval low (low + long) (put_in_order kept x)) (starts_of long slide (put_in_order kept x)) m.0 ((starts_after_put long slide kept x m.0 moves overlaps).1 (inl m.1)),
      ap (λ (j : Instance). j.bound) m.2,
    )

keeps_bounds : (kind : Kind) → IsKindWithin kind → is_timed kind ≡ true → KeepsBounds kind
keeps_bounds kind within timed kept marks x i c =
    let w = timed_within kind timed within in
    subst (λ is. HasBound is i.bound) (sym (timed_instances kind (put_in_order kept x) marks timed))
    (span_stays (length_of kind) (slide_of kind) kept x w.0 w.1 i (subst (λ is. Contains is i) (timed_instances kind kept marks timed) c))

-- a tuple keeps another settled, even where it is late
settled_at_put : (lateness : ℕ) (m : Moment) (kind : Kind) (y z : Kept) → IsKindWithin kind → is_timed kind ≡ true → Contains m.kept z → IsSettledAt lateness kind m z.time → IsSettledAt lateness kind (with_tuple m y) z.time
settled_at_put lateness m kind y z k timed d s i c l r =
    let w = timed_within kind timed k in
    let j = span_of_other (length_of kind) (slide_of kind) (put_in_order m.kept y) m.kept i z w.0 w.1 (subst (λ is. Contains is i) (timed_instances kind (put_in_order m.kept y) m.marks timed) c) d l r in
    omega (arith, j.3, s j.0 (subst (λ is. Contains is j.0) (sym (timed_instances kind m.kept m.marks timed)) j.1) (omega (arith, j.2)) (omega (arith, j.3)))

-- two tests that leave the same of a list agree on it
agree : {X : Type 0} (p q : X → Bool) (xs : List X) → filter p xs ≡ filter q xs → (x : X) → Contains xs x → p x ≡ q x
agree p q xs same x c = elim (cases_Bool (p x)) [
  | inl is ↦ is ∙ sym ((filter_members q xs x (subst (λ l. Contains l x) same (filter_has p xs x c is))).1)
  | inr not_so ↦ not_so ∙ sym (false_from_ne_true (q x) (λ is. false≢true (sym not_so ∙ (filter_members p xs x (subst (λ l. Contains l x) (sym same) (filter_has q xs x c is))).1)))
]

module _ (d : Definitions) (key : List ℕ) (kept : List Kept) (marks : List ℕ) (water due : ℕ) (x : Kept) (kinds : All (λ w. IsKindWithin w.kind) d.windows) (timed : All (λ w. is_timed w.kind ≡ true) d.windows)
    (was : AreKept kept) (put : AreKept (put_in_order kept x)) where
  -- the other tuples are settled as they were
  settled_alike : (at : ℕ) (y : Kept) → Contains kept y → is_settled d (moment (put_in_order kept x) marks at) y ≡ is_settled d (moment kept marks at) y
  settled_alike at y c = elim (cases_Bool (is_settled d (moment kept marks at) y)) [
    | inl is ↦ still is ∙ sym is
    | inr not_so ↦ false_from_ne_true (is_settled d (moment (put_in_order kept x) marks at) y) (λ g. false≢true (sym not_so ∙ tuple_settles_no_other d (moment kept marks at) x y kinds was put c g)) ∙ sym not_so
  ]
    where
      still : is_settled d (moment kept marks at) y ≡ true → is_settled d (moment (put_in_order kept x) marks at) y ≡ true
      still is = all_from (is_settled_in d.lateness (moment (put_in_order kept x) marks at) y) d.windows
          (λ w g.
          let k : IsKindWithin w.kind = All-contains (λ w. IsKindWithin w.kind) d.windows w kinds g in
          let t : is_timed w.kind ≡ true = All-contains (λ w. is_timed w.kind ≡ true) d.windows w timed g in
          let e = timed_counts_not w.kind t in
          times_settle d.lateness (moment (put_in_order kept x) marks at) y w put k e (Contains-insert_old kept _ x y c)
          (settled_at_put d.lateness (moment kept marks at) w.kind x y k t c
          (settled_by_times d.lateness (moment kept marks at) y w was k e c (all_member (is_settled_in d.lateness (moment kept marks at) y) d.windows w is g))))

  -- where a move settles none with the tuple it settles none without it
  settles_none : (old new : ℕ) → unsettled d (moment (put_in_order kept x) marks new) ≡ unsettled d (moment (put_in_order kept x) marks old) → unsettled d (moment kept marks new) ≡ unsettled d (moment kept marks old)
  settles_none old new same = filter_same (λ y. not (is_settled d (moment kept marks new) y)) (λ y. not (is_settled d (moment kept marks old) y)) kept
      (λ y c. ap not (sym (settled_alike new y c))
      ∙ agree (λ y. not (is_settled d (moment (put_in_order kept x) marks new) y)) (λ y. not (is_settled d (moment (put_in_order kept x) marks old) y)) (put_in_order kept x) same y (Contains-insert_old kept _ x y c)
      ∙ ap not (settled_alike old y c))

  -- and where it completes nothing with the tuple it completes nothing without it
  completes_none : (old new : ℕ) → old ≤ new → changes_by_move d key (put_in_order kept x) marks old new ≡ [] → changes_by_move d key kept marks old new ≡ []
  completes_none old new le none =
      changes_at_water d.windows key kept marks old new kinds was.in_order le
      ∙ nothing_ahead d.windows key (moment kept marks old) (new + 1) new
      (λ def i of c above.
      let k : IsKindWithin def.kind = All-contains (λ (w : Def). IsKindWithin w.kind) d.windows def kinds of in
      let b : HasBound (instances_of def.kind (put_in_order kept x) marks) i.bound = keeps_bounds def.kind k (All-contains (λ (w : Def). is_timed w.kind ≡ true) d.windows def timed of) kept marks x i c in
      let far : new + 1 ≤ (b.0).bound = ahead_of_none d.windows key (moment (put_in_order kept x) marks old) new (sym (changes_at_water d.windows key (put_in_order kept x) marks old new kinds put.in_order le) ∙ none) def b.0 of b.1 (omega (arith, b.2, above)) in
      omega (arith, b.2))
      (omega arith)

  pub exact_with_tuple : IsExact d key kept marks water due → IsExact d key (put_in_order kept x) marks water due
  exact_with_tuple exact = record {
    above = exact.above;
    brings = λ old new is_old is_new rises early late.
        ⊎_elim
        (λ some. inl (λ none. some (completes_none old new (omega (arith, early, late)) none)))
        (λ some. inr (λ same. some (settles_none old new same)))
        (exact.brings old new is_old is_new rises early late);
  }

-- ---- a tuple that was appended joins
last_is : (xs : List Kept) (d : Kept) → 1 ≤ length xs → last_time xs ≡ (get_or xs (length xs - 1) d).time
last_is [] d h = absurd (omega arith)
last_is (x ∷ []) d h = refl
last_is (x ∷ y ∷ ys) d h =
    let at : length (x ∷ y ∷ ys) - 1 ≡ suc (length (y ∷ ys) - 1) = omega arith in
    last_is (y ∷ ys) d (omega arith) ∙ ap (λ n. (get_or (x ∷ y ∷ ys) n d).time) (sym at)

below_last : (xs : List Kept) → TimesDoNotFall xs → (y : Kept) → Contains xs y → y.time ≤ last_time xs
below_last xs times y c =
    let le : y.time ≤ (get_or xs (length xs - 1) y).time = subst (λ (z : Kept). z.time ≤ (get_or xs (length xs - 1) y).time) c.2 (times c.0 (length xs - 1) y (omega (arith, c.1)) (omega (arith, c.1))) in
    omega (arith, le, last_is xs y (omega (arith, c.1)))

appended : (runs : List (List Kept)) (last : Bool) → placed_in runs last ≡ Appended → ((run : List Kept) × Contains runs run) × (last ≡ true)
appended [] last e = absurd cc
appended (run ∷ []) true e = ((run, Contains-head run []), refl)
appended (run ∷ []) false e = absurd cc
appended (run ∷ next ∷ runs) last e = absurd cc

near_end : (cut : ℕ → ℕ → Bool) (time : ℕ) (run : List Kept) → first_time run ≤ time → last_time run ≤ time → is_near cut time run ≡ true → cut (last_time run) time ≡ false
near_end cut time run first last near = by (nat_lt time (first_time run)) (nat_lt time (last_time run)) (cut (last_time run) time) (lt-false time (first_time run) first) (lt-false time (last_time run) last) near
  where
    lt-false : (a b : ℕ) → b ≤ a → nat_lt a b ≡ false
    lt-false a b l = le-ltb a b l

    by : (a b c : Bool) → a ≡ false → b ≡ false → (if a then not (cut time (first_time run)) else b || not c) ≡ true → c ≡ false
    by false false true e f g = absurd cc
    by false false false e f g = refl
    by true b c e f g = absurd cc
    by false true c e f g = absurd cc

pub joins_of : (windows : List Def) (s : Stored) (time : ℕ) → IsStore s → placed_in (slices_near windows time s) (is_last time s) ≡ Appended → Joins windows s time
joins_of windows s time store e =
    let a = appended (slices_near windows time s) (is_last time s) e in
    let run = a.0.0 in
    let m : Contains s.slices run × (is_near (has_cut windows s.marks) time run ≡ true) = filter_members' run a.0.1 in
    let is_run : IsRun IsNear run = All-contains (IsRun IsNear) s.slices run (runs_are_runs IsNear IsApart 0 (λ a b g. g) (λ a b g. omega (arith, g)) s.slices store.slices.ordered) m.0 in
    let y = last_of run (full run is_run) in
    let here : Contains (tuples_of s) y.0 = flat_map_has (λ (r : List Kept). r) s.slices run y.0 m.0 y.1 in
    let last : last_time (tuples_of s) ≤ time = leb-true (last_time (tuples_of s)) time a.1 in
    let behind : y.0.time ≤ time = omega (arith, below_last (tuples_of s) (times_of_order s.slices store.slices.ordered) y.0 here, last) in
    let no : has_cut windows s.marks (last_time run) time ≡ false = near_end (has_cut windows s.marks) time run (omega (arith, first_below_last run is_run, y.2, behind)) (omega (arith, y.2, behind)) m.1 in
    record {
      last = y.0;
      has = here;
      behind = behind;
      no_cut = subst (λ t. has_cut windows s.marks t time ≡ false) y.2 no;
    }
  where
    full : (run : List Kept) → IsRun IsNear run → 1 ≤ length run
    full [] r = absurd r
    full (x ∷ xs) r = omega arith

    filter_members' : (run : List Kept) → Contains (slices_near windows time s) run → Contains s.slices run × (is_near (has_cut windows s.marks) time run ≡ true)
    filter_members' run c = let f = filter_members (is_near (has_cut windows s.marks) time) s.slices run c in (f.0, f.1)
