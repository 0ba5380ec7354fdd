-- What is left where settled tuples have left is settled as it was.
use Rattle.std.proofs.Common.{◌≡◌, ◌∙◌, ℕ, ◌+◌, ◌-◌, ◌<◌, ◌≤◌, Bool, true, false, not, List, ◌++◌, take, drop, ap, sym, refl, subst, arith, inl, inr}
use Rattle.std.specs.Prelude.{nat_lt}
use Rattle.std.specs.List.{Contains, filter}
use Rattle.std.proofs.lemmas.Bool.{cases_Bool, cases_lt, lt-ltb, or_left}
use Rattle.std.proofs.lemmas.List.{get_or-drop, length-drop, take-append-drop}
use Rattle.std.proofs.lemmas.List.Elements.{All-contains, All-drop, All-weaker, Contains-append_left, Contains-append_right, filter-append}
use Rattle.std.proofs.lemmas.List.Sorted.{IsNonDecreasingBy-drop}
use Rattle.stream_base.specs.declared.def.Def.{Def}
use Rattle.stream_base.specs.declared.kept.Kept.{Kept}
use Rattle.stream_base.specs.declared.limits.TheConstants.{FINAL}
use Rattle.stream_base.specs.Limits.{Definitions}
use Rattle.stream_base.specs.Kinds.{IsKindWithin, is_events}
use Rattle.stream_base.specs.Model.Changes.{Moment}
use Rattle.stream_base.specs.Model.Slices.{is_settled, is_settled_in, unsettled}
use Rattle.stream_base.specs.Model.Windows.{Instance, instances_of}
use Rattle.stream_base.proofs.Members.{filter_has, filter_members, filter_same}
use Rattle.window_laws.specs.Instances.{incomplete}
use Rattle.window_laws.specs.Positions.{AreKept}
use Rattle.window_laws.specs.Settled.{MayLeave, without_first}
use Rattle.window_laws.proofs.KindFacts.{bounds_are_ends, EndBy}
use Rattle.window_laws.proofs.LeaveChanges.{firsts_leave}
use Rattle.stream_base.proofs.Filters.{filter_none}
use Rattle.window_laws.proofs.SettledFacts.{all_from, all_member, settled_by_times, times_settle}

pub same_truth : (a b : Bool) → (a ≡ true → b ≡ true) → (b ≡ true → a ≡ true) → a ≡ b
same_truth true true f g = refl
same_truth true false f g = sym (f refl)
same_truth false true f g = g refl
same_truth false false f g = refl

pub left_kept : (n : ℕ) (kept : List Kept) → AreKept kept → AreKept (drop n kept)
left_kept n kept a = record {
  in_order = IsNonDecreasingBy-drop (λ (z : Kept). z.time) n kept a.in_order;
  early = All-drop (λ (z : Kept). z.time < FINAL) n kept a.early;
  distinct = λ i j w l b. λ e. a.distinct (n + i) (n + j) w (omega arith) (omega (arith, length-drop n kept)) (sym (ap (λ (z : Kept). z.position) (get_or-drop n kept i w)) ∙ e ∙ ap (λ (z : Kept). z.position) (get_or-drop n kept j w));
}

module _ (d : Definitions) (m : Moment) (n : ℕ) (may : MayLeave d m n) where
  pub rest_kept : AreKept (drop n m.kept)
  rest_kept = left_kept n m.kept may.kept

  pub of_first : (z : Kept) → Contains (take n m.kept) z → Contains m.kept z
  of_first z c = subst (λ l. Contains l z) (take-append-drop n m.kept) (Contains-append_left (take n m.kept) (drop n m.kept) z c)

  pub of_rest : (z : Kept) → Contains (drop n m.kept) z → Contains m.kept z
  of_rest z c = subst (λ l. Contains l z) (take-append-drop n m.kept) (Contains-append_right (take n m.kept) (drop n m.kept) z c)

  first_settled : (z : Kept) → Contains (take n m.kept) z → is_settled d m z ≡ true
  first_settled z c = All-contains (λ x. is_settled d m x ≡ true) (take n m.kept) z may.are_settled c

  -- in one window
  module _ (w : Def) (c : Contains d.windows w) where
    k : IsKindWithin w.kind
    k = All-contains (λ w. IsKindWithin w.kind) d.windows w may.kinds c

    module _ (e : is_events w.kind ≡ false) where
      ends_by : (z : Kept) → Contains (take n m.kept) z → EndBy w.kind m.kept m.marks (m.water - d.lateness) z.time
      ends_by z b i g l r =
          let t : i.high + d.lateness ≤ m.water = settled_by_times d.lateness m z w may.kept k e (of_first z b) (all_member (is_settled_in d.lateness m z) d.windows w (first_settled z b) c) i g l r in
          omega arith

      -- the instances that are still to end are those of the rest
      alike : incomplete (m.water - d.lateness) (instances_of w.kind m.kept m.marks) ≡ incomplete (m.water - d.lateness) (instances_of w.kind (drop n m.kept) m.marks)
      alike = firsts_leave w.kind n m.kept m.marks (m.water - d.lateness) k e (may.kept).in_order ends_by

      settled_over : (these those : List Kept) → incomplete (m.water - d.lateness) (instances_of w.kind these m.marks) ≡ incomplete (m.water - d.lateness) (instances_of w.kind those m.marks)
          → (t : ℕ) → ((i : Instance) → Contains (instances_of w.kind these m.marks) i → i.low ≤ t → t < i.high → i.high + d.lateness ≤ m.water)
          → (i : Instance) → Contains (instances_of w.kind those m.marks) i → i.low ≤ t → t < i.high → i.high + d.lateness ≤ m.water
      settled_over these those same t all i b l r = elim (cases_lt (m.water - d.lateness) i.high) [
        | inl late ↦ (let end : i.bound ≡ i.high = All-contains (λ (i : Instance). i.bound ≡ i.high) (instances_of w.kind those m.marks) i (bounds_are_ends w.kind those m.marks e) b in
            let open_ : Contains (incomplete (m.water - d.lateness) (instances_of w.kind those m.marks)) i = filter_has (λ (i : Instance). nat_lt (m.water - d.lateness) i.bound) (instances_of w.kind those m.marks) i b (lt-ltb (m.water - d.lateness) i.bound (omega (arith, end))) in
            all i (filter_members (λ (i : Instance). nat_lt (m.water - d.lateness) i.bound) (instances_of w.kind these m.marks) i (subst (λ l. Contains l i) (sym same) open_)).0 l r)
        | inr done ↦ omega arith
      ]

    pub settled_in_alike : (x : Kept) → Contains (drop n m.kept) x → is_settled_in d.lateness m x w ≡ is_settled_in d.lateness (without_first n m) x w
    settled_in_alike x b = elim (cases_Bool (is_events w.kind)) [
      | inl e ↦ or_left (is_events w.kind) _ e ∙ sym (or_left (is_events w.kind) _ e)
      | inr e ↦ same_truth (is_settled_in d.lateness m x w) (is_settled_in d.lateness (without_first n m) x w)
          (λ s. times_settle d.lateness (without_first n m) x w rest_kept k e b (settled_over e m.kept (drop n m.kept) (alike e) x.time (settled_by_times d.lateness m x w may.kept k e (of_rest x b) s)))
          (λ s. times_settle d.lateness m x w may.kept k e (of_rest x b) (settled_over e (drop n m.kept) m.kept (sym (alike e)) x.time (settled_by_times d.lateness (without_first n m) x w rest_kept k e b s)))
    ]

  -- in all
  pub settled_alike : (x : Kept) → Contains (drop n m.kept) x → is_settled d m x ≡ is_settled d (without_first n m) x
  settled_alike x b = same_truth (is_settled d m x) (is_settled d (without_first n m) x)
      (λ s. all_from (is_settled_in d.lateness (without_first n m) x) d.windows (λ w c. sym (settled_in_alike w c x b) ∙ all_member (is_settled_in d.lateness m x) d.windows w s c))
      (λ s. all_from (is_settled_in d.lateness m x) d.windows (λ w c. settled_in_alike w c x b ∙ all_member (is_settled_in d.lateness (without_first n m) x) d.windows w s c))

  pub unsettled_alike : unsettled d m ≡ unsettled d (without_first n m)
  unsettled_alike =
      ap (filter (λ x. not (is_settled d m x))) (sym (take-append-drop n m.kept))
      ∙ filter-append (λ x. not (is_settled d m x)) (take n m.kept) (drop n m.kept)
      ∙ ap (λ l. l ++ filter (λ x. not (is_settled d m x)) (drop n m.kept)) (filter_none (λ x. not (is_settled d m x)) (take n m.kept) (All-weaker (λ x. is_settled d m x ≡ true) (λ x. not (is_settled d m x) ≡ false) (λ x s. ap not s) (take n m.kept) may.are_settled))
      ∙ filter_same (λ x. not (is_settled d m x)) (λ x. not (is_settled d (without_first n m) x)) (drop n m.kept) (λ x c. ap not (settled_alike x c))

pub settled_alike_in : (d : Definitions) (m : Moment) (n : ℕ) (w : Def) (x : Kept) → MayLeave d m n → Contains d.windows w → Contains (drop n m.kept) x → is_settled_in d.lateness m x w ≡ is_settled_in d.lateness (without_first n m) x w
settled_alike_in d m n w x may c b = settled_in_alike d m n may w c x b

pub settled_alike_all : (d : Definitions) (m : Moment) (n : ℕ) (x : Kept) → MayLeave d m n → Contains (drop n m.kept) x → is_settled d m x ≡ is_settled d (without_first n m) x
settled_alike_all d m n x may b = settled_alike d m n may x b

pub unsettled_left : (d : Definitions) (m : Moment) (n : ℕ) → MayLeave d m n → unsettled d m ≡ unsettled d (without_first n m)
unsettled_left d m n may = unsettled_alike d m n may
