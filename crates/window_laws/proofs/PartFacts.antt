-- The changes of sessions and of intervals between marks.
use Rattle.std.proofs.Common.{◌≡◌, ◌∙◌, ℕ, ◌<◌, ◌≤◌, Bool, true, false, cond, Some, None, List, [], ◌∷◌, ◌++◌, map, ap, sym, refl, subst, arith, inl, inr}
use Rattle.std.specs.Prelude.{◌⊎◌, ◌||◌, ◌==◌, nat_le, find}
use Rattle.std.specs.BTreeSet.{insert_key}
use Rattle.std.specs.List.{All, cons_option, filter, filter_map, list_any}
use Rattle.std.specs.Ordering.{nat_cmp}
use Rattle.std.proofs.lemmas.Bool.{and_left, and_right, ne_eqb}
use Rattle.std.proofs.lemmas.List.Elements.{All-append, All-cons, All-filter, All-head, All-nil, All-tail, All-weaker}
use Rattle.std.proofs.lemmas.List.Kept.{IsStrictlySortedBy-filter}
use Rattle.stream_base.specs.declared.change.Change.TheVariants.{Again, Gone, New}
use Rattle.stream_base.specs.declared.def.Def.{Def}
use Rattle.stream_base.specs.declared.func.Func.{Func}
use Rattle.stream_base.specs.declared.kept.Kept.{Kept}
use Rattle.stream_base.specs.declared.kind.Kind.TheVariants.{Marks, Session}
use Rattle.stream_base.specs.declared.limits.TheConstants.{FINAL}
use Rattle.stream_base.specs.Laws.{RiseByStart, TimesDoNotFall, by_start}
use Rattle.stream_base.specs.Kinds.{IsKindWithin}
use Rattle.stream_base.specs.Model.Changes.{Moment, are_same_tuples, emission, emissions, emitted, former_of, is_same, retraction, retractions, row_of}
use Rattle.stream_base.specs.Model.Journal.{put_in_order}
use Rattle.stream_base.specs.Model.Windows.{Instance, instances_of, interval, is_complete, is_selecting, is_within, sessions, standing_of, stretches, within}
use Rattle.stream_base.proofs.ChangeFacts.{none_emitted, none_retracted}
use Rattle.stream_base.proofs.Distinct.{is_same_itself}
use Rattle.stream_base.proofs.KindFacts.{instances_rise}
use Rattle.window_laws.specs.After.{complete_at, emissions_between, retractions_between, with_mark, with_tuple}
use Rattle.window_laws.specs.Late.{interval_change}
use Rattle.window_laws.specs.Sessions.{AreChangesOfNear, IsPutInSessions, joined_session}
use Rattle.window_laws.specs.Stretches.{AreChangesOfHolder, AreChangesOfParting, IsMarkedInStretches, IsPutInStretches, if_selecting}
use Rattle.window_laws.proofs.InstanceFacts.{inside_span}
use Rattle.window_laws.proofs.LateFacts.{longer_differs, one_more}
use Rattle.window_laws.proofs.MiddleFacts.{complete_come, complete_gone}
use Rattle.window_laws.proofs.SessionFacts.{put_times, sessions_after_put}
use Rattle.window_laws.proofs.StretchFacts.{empty_interval, stretches_after_mark, stretches_after_put}

pub session_changes : (window : ℕ) (key : List ℕ) (gap : ℕ) (def : Def) (m : Moment) (x : Kept) → def.kind ≡ Session gap → IsKindWithin def.kind → TimesDoNotFall m.kept
    → AreChangesOfNear window key def.func gap m x (retractions key m (with_tuple m x) (window, def)) (emissions key m (with_tuple m x) (window, def))
unfolding instances_of
session_changes window key gap def m x e within h =
    let k : IsKindWithin (Session gap) = subst IsKindWithin e within in
    let p : IsPutInSessions gap x (sessions gap m.kept) (sessions gap (put_in_order m.kept x)) = sessions_after_put gap m.kept x k.0 h in
    let was : RiseByStart (p.front ++ (p.near ++ p.back)) = subst RiseByStart p.was (instances_rise (Session gap) m.kept m.marks k h) in
    let now : RiseByStart (p.front ++ (joined_session gap p.near x ∷ p.back)) = subst RiseByStart p.is (instances_rise (Session gap) (put_in_order m.kept x) m.marks k (put_times m.kept x h)) in
    record {
      put = p;
      goes =
          (λ i. filter_map (retraction window key def.func (standing_of (e i) (put_in_order m.kept x) m.marks m.water)) (standing_of (e i) m.kept m.marks m.water))
          ∙ (λ i. retractions_between window key def.func (complete_at m.water (p.was i)) (complete_at m.water (p.is i)))
          ∙ complete_gone window key def.func m.water p.front p.near (joined_session gap p.near x ∷ []) p.back was now;
      comes =
          (λ i. filter_map (emission window key def.func (standing_of (e i) m.kept m.marks m.water)) (standing_of (e i) (put_in_order m.kept x) m.marks m.water))
          ∙ (λ i. emissions_between window key def.func (complete_at m.water (p.was i)) (complete_at m.water (p.is i)))
          ∙ complete_come window key def.func m.water p.front p.near (joined_session gap p.near x ∷ []) p.back was now;
    }

-- ---- intervals between marks
complete_if : (water : ℕ) (i : Instance) (s : Bool) → filter (is_complete water) (cond s (i ∷ []) []) ≡ cond s (cond (is_complete water i) (i ∷ []) []) []
complete_if water i true = refl
complete_if water i false = refl

module _ (window : ℕ) (key : List ℕ) (func : Func) (low high water : ℕ) (kept : List Kept) (x : Kept) (starts : low ≤ x.time) (ends : x.time < high) where
  abbrev former : Instance
  former = interval low high kept

  abbrev latter : Instance
  latter = interval low high (put_in_order kept x)

  same_span : (one two : List Kept) → is_same (interval low high one) (interval low high two) ≡ true
  same_span one two = is_same_itself (interval low high one)

  holder_goes : retractions_between window key func (complete_at water (if_selecting low high kept)) (complete_at water (interval low high (put_in_order kept x) ∷ [])) ≡ []
  holder_goes = ap (λ l. filter_map (retraction window key func (cond (nat_le high water) (latter ∷ []) [])) l) (complete_if water former (is_selecting former)) ∙ by (nat_le high water) (is_selecting former)
    where
      by : (c s : Bool) → filter_map (retraction window key func (cond c (latter ∷ []) [])) (cond s (cond c (former ∷ []) []) []) ≡ []
      by true true = ap (λ b. cons_option (cond (b || false) None (Some (Gone (row_of window key func former)))) []) (same_span kept (put_in_order kept x))
      by true false = refl
      by false true = refl
      by false false = refl

  holder_comes : emissions_between window key func (complete_at water (if_selecting low high kept)) (complete_at water (interval low high (put_in_order kept x) ∷ [])) ≡ cond (nat_le high water) (interval_change window key func low high kept x ∷ []) []
  holder_comes =
      ap (λ l. filter_map (emission window key func l) (cond (nat_le high water) (latter ∷ []) [])) (complete_if water former (is_selecting former))
      ∙ by (nat_le high water) (is_selecting former)
    where
      longer : are_same_tuples (within low high kept) (within low high (put_in_order kept x)) ≡ false
      longer = longer_differs (within low high kept) (within low high (put_in_order kept x)) (one_more (is_within low high) kept _ x (inside_span low high x starts ends))

      by : (c s : Bool) → filter_map (emission window key func (cond s (cond c (former ∷ []) []) [])) (cond c (latter ∷ []) []) ≡ cond c (cond s (Again (row_of window key func latter) (former_of func former)) (New (row_of window key func latter)) ∷ []) []
      by true true =
          ap (λ b. cons_option (emitted window key func latter (cond b (Some former) None)) []) (same_span (put_in_order kept x) kept)
          ∙ ap (λ b. cons_option (cond b None (Some (Again (row_of window key func latter) (former_of func former)))) []) longer
      by true false = refl
      by false true = refl
      by false false = refl

pub holder_changes : (window : ℕ) (key : List ℕ) (def : Def) (m : Moment) (x : Kept) → def.kind ≡ Marks → TimesDoNotFall m.kept → x.time < FINAL
    → AreChangesOfHolder window key def.func m x (retractions key m (with_tuple m x) (window, def)) (emissions key m (with_tuple m x) (window, def))
unfolding instances_of
holder_changes window key def m x e h f =
    let p : IsPutInStretches m.kept x (stretches m.marks m.kept) (stretches m.marks (put_in_order m.kept x)) = stretches_after_put m.marks m.kept x f in
    let was : RiseByStart (p.front ++ (if_selecting p.low p.high m.kept ++ p.back)) = subst RiseByStart p.was (instances_rise Marks m.kept m.marks tt h) in
    let now : RiseByStart (p.front ++ (interval p.low p.high (put_in_order m.kept x) ∷ p.back)) = subst RiseByStart p.is (instances_rise Marks (put_in_order m.kept x) m.marks tt (put_times m.kept x h)) in
    record {
      put = p;
      goes =
          (λ i. filter_map (retraction window key def.func (standing_of (e i) (put_in_order m.kept x) m.marks m.water)) (standing_of (e i) m.kept m.marks m.water))
          ∙ (λ i. retractions_between window key def.func (complete_at m.water (p.was i)) (complete_at m.water (p.is i)))
          ∙ complete_gone window key def.func m.water p.front (if_selecting p.low p.high m.kept) (interval p.low p.high (put_in_order m.kept x) ∷ []) p.back was now
          ∙ holder_goes window key def.func p.low p.high m.water m.kept x p.starts p.ends;
      comes =
          (λ i. filter_map (emission window key def.func (standing_of (e i) m.kept m.marks m.water)) (standing_of (e i) (put_in_order m.kept x) m.marks m.water))
          ∙ (λ i. emissions_between window key def.func (complete_at m.water (p.was i)) (complete_at m.water (p.is i)))
          ∙ complete_come window key def.func m.water p.front (if_selecting p.low p.high m.kept) (interval p.low p.high (put_in_order m.kept x) ∷ []) p.back was now
          ∙ holder_comes window key def.func p.low p.high m.water m.kept x p.starts p.ends;
    }

-- where nothing is the same, all goes and all comes
all_goes : (window : ℕ) (key : List ℕ) (func : Func) (old new : List Instance) → All (λ i. All (λ j. is_same i j ≡ false) new) old → filter_map (retraction window key func new) old ≡ map (λ i. Gone (row_of window key func i)) old
all_goes window key func [] new a = refl
all_goes window key func (i ∷ old) new a =
    let one : list_any (is_same i) new ≡ false = none_same new (All-head (λ i. All (λ j. is_same i j ≡ false) new) i old a) in
    λ k. cons_option (cond (one k) None (Some (Gone (row_of window key func i)))) (all_goes window key func old new (All-tail (λ i. All (λ j. is_same i j ≡ false) new) i old a) k)
  where
    none_same : (js : List Instance) → All (λ j. is_same i j ≡ false) js → list_any (is_same i) js ≡ false
    none_same [] b = refl
    none_same (j ∷ js) b = ap (λ t. t || list_any (is_same i) js) (All-head (λ j. is_same i j ≡ false) j js b) ∙ none_same js (All-tail (λ j. is_same i j ≡ false) j js b)

all_comes : (window : ℕ) (key : List ℕ) (func : Func) (old new : List Instance) → All (λ j. All (λ i. is_same j i ≡ false) old) new → filter_map (emission window key func old) new ≡ map (λ i. New (row_of window key func i)) new
all_comes window key func old [] a = refl
all_comes window key func old (j ∷ new) a =
    let one : find (is_same j) old ≡ None = none_found old (All-head (λ j. All (λ i. is_same j i ≡ false) old) j new a) in
    λ k. cons_option (emitted window key func j (one k)) (all_comes window key func old new (All-tail (λ j. All (λ i. is_same j i ≡ false) old) j new a) k)
  where
    none_found : (is : List Instance) → All (λ i. is_same j i ≡ false) is → find (is_same j) is ≡ None
    none_found [] b = refl
    none_found (i ∷ is) b = ap (λ t. cond t (Some i) (find (is_same j) is)) (All-head (λ i. is_same j i ≡ false) i is b) ∙ none_found is (All-tail (λ i. is_same j i ≡ false) i is b)

-- the span of an interval, if it selects one
spans_so : (low high water : ℕ) (kept : List Kept) → All (λ (i : Instance). (i.low ≡ low) × (i.high ≡ high)) (if_selecting low high kept)
spans_so low high water kept = All-filter is_selecting (λ i. (i.low ≡ low) × (i.high ≡ high)) (interval low high kept ∷ []) (All-cons (λ (i : Instance). (i.low ≡ low) × (i.high ≡ high)) (interval low high kept) [] (refl, refl) (All-nil (λ (i : Instance). (i.low ≡ low) × (i.high ≡ high))))

module _ (low time high water : ℕ) (kept : List Kept) (after : low < time) (before : time < high) where
  abbrev whole : List Instance
  whole = if_selecting low high kept

  abbrev parts : List Instance
  parts = if_selecting low time kept ++ if_selecting time high kept

  other_ends : (i j : Instance) → (i.low ≡ low) × (i.high ≡ high) → ((j.low ≡ low) × (j.high ≡ time)) ⊎ ((j.low ≡ time) × (j.high ≡ high)) → (is_same i j ≡ false) × (is_same j i ≡ false)
  other_ends i j a (inl b) = (and_right (i.low == j.low) (i.high == j.high) (ne_eqb i.high j.high (λ e. omega (arith, a.1, b.1))), and_right (j.low == i.low) (j.high == i.high) (ne_eqb j.high i.high (λ e. omega (arith, a.1, b.1))))
  other_ends i j a (inr b) = (and_left (i.low == j.low) (i.high == j.high) (ne_eqb i.low j.low (λ e. omega (arith, a.0, b.0))), and_left (j.low == i.low) (j.high == i.high) (ne_eqb j.low i.low (λ e. omega (arith, a.0, b.0))))

  ends_of_parts : All (λ (j : Instance). ((j.low ≡ low) × (j.high ≡ time)) ⊎ ((j.low ≡ time) × (j.high ≡ high))) (if_selecting low time kept ++ if_selecting time high kept)
  ends_of_parts =
      All-append (λ (j : Instance). ((j.low ≡ low) × (j.high ≡ time)) ⊎ ((j.low ≡ time) × (j.high ≡ high))) (if_selecting low time kept) (if_selecting time high kept)
      (All-weaker (λ (j : Instance). (j.low ≡ low) × (j.high ≡ time)) (λ j. ((j.low ≡ low) × (j.high ≡ time)) ⊎ ((j.low ≡ time) × (j.high ≡ high))) (λ j b. inl b) (if_selecting low time kept) (spans_so low time water kept))
      (All-weaker (λ (j : Instance). (j.low ≡ time) × (j.high ≡ high)) (λ j. ((j.low ≡ low) × (j.high ≡ time)) ⊎ ((j.low ≡ time) × (j.high ≡ high))) (λ j b. inr b) (if_selecting time high kept) (spans_so time high water kept))

  parting_goes : (window : ℕ) (key : List ℕ) (func : Func) → retractions_between window key func (complete_at water (if_selecting low high kept)) (complete_at water (if_selecting low time kept ++ if_selecting time high kept)) ≡ map (λ i. Gone (row_of window key func i)) (complete_at water (if_selecting low high kept))
  parting_goes window key func =
      all_goes window key func (complete_at water whole) (complete_at water parts)
      (All-filter (is_complete water) (λ i. All (λ j. is_same i j ≡ false) (complete_at water parts)) whole
      (All-weaker (λ (i : Instance). (i.low ≡ low) × (i.high ≡ high)) (λ i. All (λ j. is_same i j ≡ false) (complete_at water parts)) (λ i a. All-filter (is_complete water) (λ j. is_same i j ≡ false) parts
      (All-weaker (λ (j : Instance). ((j.low ≡ low) × (j.high ≡ time)) ⊎ ((j.low ≡ time) × (j.high ≡ high))) (λ j. is_same i j ≡ false) (λ j b. (other_ends i j a b).0) parts ends_of_parts)) whole (spans_so low high water kept)))

  parting_comes : (window : ℕ) (key : List ℕ) (func : Func) → emissions_between window key func (complete_at water (if_selecting low high kept)) (complete_at water (if_selecting low time kept ++ if_selecting time high kept)) ≡ map (λ i. New (row_of window key func i)) (complete_at water (if_selecting low time kept ++ if_selecting time high kept))
  parting_comes window key func =
      all_comes window key func (complete_at water whole) (complete_at water parts)
      (All-filter (is_complete water) (λ j. All (λ i. is_same j i ≡ false) (complete_at water whole)) parts
      (All-weaker (λ (j : Instance). ((j.low ≡ low) × (j.high ≡ time)) ⊎ ((j.low ≡ time) × (j.high ≡ high))) (λ j. All (λ i. is_same j i ≡ false) (complete_at water whole)) (λ j b. All-filter (is_complete water) (λ i. is_same j i ≡ false) whole
      (All-weaker (λ (i : Instance). (i.low ≡ low) × (i.high ≡ high)) (λ i. is_same j i ≡ false) (λ i a. (other_ends i j a b).1) whole (spans_so low high water kept))) parts ends_of_parts))

pub parting_changes : (window : ℕ) (key : List ℕ) (def : Def) (m : Moment) (time : ℕ) → def.kind ≡ Marks → TimesDoNotFall m.kept → time < FINAL
    → AreChangesOfParting window key def.func m time (retractions key m (with_mark m time) (window, def)) (emissions key m (with_mark m time) (window, def))
unfolding instances_of
parting_changes window key def m time e h f =
    let p : IsMarkedInStretches m.kept time (stretches m.marks m.kept) (stretches (insert_key nat_cmp m.marks time) m.kept) = stretches_after_mark m.marks m.kept time f in
    let rise : RiseByStart (stretches m.marks m.kept) = instances_rise Marks m.kept m.marks tt h in
    let was : RiseByStart (p.front ++ (if_selecting p.low p.high m.kept ++ p.back)) = subst RiseByStart p.was rise in
    let now : RiseByStart (p.front ++ ((if_selecting p.low time m.kept ++ if_selecting time p.high m.kept) ++ p.back)) = subst RiseByStart p.is (instances_rise Marks m.kept (insert_key nat_cmp m.marks time) tt h) in
    let gone : filter_map (retraction window key def.func (standing_of def.kind m.kept (insert_key nat_cmp m.marks time) m.water)) (standing_of def.kind m.kept m.marks m.water) ≡ retractions_between window key def.func (complete_at m.water (stretches m.marks m.kept)) (complete_at m.water (stretches (insert_key nat_cmp m.marks time) m.kept)) = λ i. filter_map (retraction window key def.func (standing_of (e i) m.kept (insert_key nat_cmp m.marks time) m.water)) (standing_of (e i) m.kept m.marks m.water) in
    let come : filter_map (emission window key def.func (standing_of def.kind m.kept m.marks m.water)) (standing_of def.kind m.kept (insert_key nat_cmp m.marks time) m.water) ≡ emissions_between window key def.func (complete_at m.water (stretches m.marks m.kept)) (complete_at m.water (stretches (insert_key nat_cmp m.marks time) m.kept)) = λ i. filter_map (emission window key def.func (standing_of (e i) m.kept m.marks m.water)) (standing_of (e i) m.kept (insert_key nat_cmp m.marks time) m.water) in
    record {
      marked = p;
      edge_goes = λ at. gone ∙ none_retracted window key def.func (complete_at m.water (stretches (insert_key nat_cmp m.marks time) m.kept)) (complete_at m.water (stretches m.marks m.kept)) (ap (complete_at m.water) (same p at));
      edge_comes = λ at. come ∙ none_emitted window key def.func (complete_at m.water (stretches m.marks m.kept)) (complete_at m.water (stretches (insert_key nat_cmp m.marks time) m.kept)) (IsStrictlySortedBy-filter by_start (is_complete m.water) (stretches m.marks m.kept) rise) (ap (complete_at m.water) (same p at));
      goes = λ after.
          gone
          ∙ (λ i. retractions_between window key def.func (complete_at m.water (p.was i)) (complete_at m.water (p.is i)))
          ∙ complete_gone window key def.func m.water p.front (if_selecting p.low p.high m.kept) (if_selecting p.low time m.kept ++ if_selecting time p.high m.kept) p.back was now
          ∙ parting_goes p.low time p.high m.water m.kept after p.ends window key def.func;
      comes = λ after.
          come
          ∙ (λ i. emissions_between window key def.func (complete_at m.water (p.was i)) (complete_at m.water (p.is i)))
          ∙ complete_come window key def.func m.water p.front (if_selecting p.low p.high m.kept) (if_selecting p.low time m.kept ++ if_selecting time p.high m.kept) p.back was now
          ∙ parting_comes p.low time p.high m.water m.kept after p.ends window key def.func;
    }
  where
    same : (p : IsMarkedInStretches m.kept time (stretches m.marks m.kept) (stretches (insert_key nat_cmp m.marks time) m.kept)) → p.low ≡ time → stretches m.marks m.kept ≡ stretches (insert_key nat_cmp m.marks time) m.kept
    same p at =
        let none : [] ≡ if_selecting p.low time m.kept = sym (empty_interval p.low time m.kept (omega arith)) in
        p.was
        ∙ (λ i. p.front ++ ((none i ++ if_selecting (at i) p.high m.kept) ++ p.back))
        ∙ sym p.is
