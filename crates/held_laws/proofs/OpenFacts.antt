-- Where no tuple in the store of a key is settled.
use Rattle.std.proofs.Common.{◌≡◌, ◌∙◌, ℕ, ◌+◌, ◌<◌, ◌≤◌, Bool, true, false, not, List, drop, ap, sym, refl, subst, arith, inl, inr}
use Rattle.std.specs.Prelude.{◌||◌, nat_lt, if◌then◌else◌}
use Rattle.std.specs.List.{All, Contains, filter, list_any}
use Rattle.std.proofs.lemmas.Bool.{false≢true, false_from_ne_true}
use Rattle.std.proofs.lemmas.List.Elements.{All-contains, All-nil}
use Rattle.stream_base.specs.declared.kept.Kept.{Kept}
use Rattle.stream_base.specs.declared.def.Def.{Def}
use Rattle.stream_base.specs.Limits.{Definitions}
use Rattle.stream_base.specs.Model.Changes.{Moment}
use Rattle.stream_base.specs.Model.Cuts.{has_cut}
use Rattle.stream_base.specs.Kinds.{cuts_between, is_events}
use Rattle.stream_base.specs.Model.Journal.{put_in_order}
use Rattle.stream_base.specs.Model.Slices.{is_settled, runs_of, unsettled}
use Rattle.stream_base.specs.Model.Windows.{first_time, last_time}
use Rattle.stream_base.proofs.Distinct.{All_from_members}
use Rattle.stream_base.proofs.Members.{Contains-insert_cases, filter_members, filter_same}
use Rattle.window_laws.specs.After.{at_water, with_mark, with_tuple}
use Rattle.window_laws.specs.Positions.{AreKept}
use Rattle.slice_lists.specs.Runs.{IsRun}
use Rattle.window_laws.specs.Settled.{without_first}
use Rattle.stream_base.proofs.Filters.{filter_all}
use Rattle.slice_lists.proofs.Order.{runs_are_runs}
use Rattle.window_laws.proofs.SettledFacts.{not_all}
use Rattle.window_laws.proofs.SettledMoves.{mark_settles_none, move_keeps_settled, new_tuple_is_unsettled, tuple_settles_no_other}
use Rattle.slice_lists.specs.Touched.{is_near, slices_from}
use Rattle.agg_store.specs.Entered.{slices_near}
use Rattle.slice_lists.specs.Slices.{joined}
use Rattle.agg_store.specs.Stored.{IsStore, Stored, tuples_of}
use Rattle.slice_lists.proofs.SliceOrder.{IsApart, IsNear, first_below_last}
use Rattle.key_parts.specs.Held.{IsHeld}
use Rattle.key_parts.specs.Moves.{Comes, Enters, IsMarkStep, IsPutStep, Leaves}
use Rattle.held_laws.specs.Settling.{IsSettledUpTo, NoneSettled}
use Rattle.held_laws.proofs.AlikeFacts.{of_rest, settled_alike_all, unsettled_left}
use Rattle.held_laws.proofs.CountFacts.{unsettled_from}
use Rattle.held_laws.proofs.HoldFacts.{held_after_tuple}
use Rattle.held_laws.proofs.SliceFacts.{begin_from_dropped, same_marks, slices_of_key}

-- ---- the unsettled tuples are those of the store
not_settled : (b : Bool) → not b ≡ true → b ≡ false
not_settled true e = sym e
not_settled false e = refl

-- a tuple in the store is one of the key
of_key : (d : Definitions) (m : Moment) (n : ℕ) (s : Stored) → IsHeld d m n s → (x : Kept) → Contains (tuples_of s) x → Contains m.kept x
of_key d m n s h x c = of_rest d m n h.may_leave x (subst (λ l. Contains l x) h.tuples c)

pub unsettled_are_held : (d : Definitions) (m : Moment) (n : ℕ) (s : Stored) → IsHeld d m n s → NoneSettled d m s → unsettled d m ≡ tuples_of s
unsettled_are_held d m n s h u =
    unsettled_left d m n h.may_leave
    ∙ filter_all (λ x. not (is_settled d (without_first n m) x)) (drop n m.kept) (All_from_members (λ x. not (is_settled d (without_first n m) x) ≡ true) (drop n m.kept) open_one)
    ∙ sym h.tuples
  where
    open_one : (x : Kept) → Contains (drop n m.kept) x → not (is_settled d (without_first n m) x) ≡ true
    open_one x c = ap not (sym (settled_alike_all d m n x h.may_leave c) ∙ All-contains (λ x. is_settled d m x ≡ false) (tuples_of s) x u (subst (λ l. Contains l x) (sym h.tuples) c))

pub unsettled_slices_are_held : (d : Definitions) (m : Moment) (n : ℕ) (s : Stored) → IsHeld d m n s → IsStore s → NoneSettled d m s → runs_of d.windows m.marks (unsettled d m) ≡ s.slices
unsettled_slices_are_held d m n s h o u = ap (runs_of d.windows m.marks) (unsettled_are_held d m n s h u) ∙ sym (slices_of_key d m n s h o)

-- ---- none is settled
pub open_from : (d : Definitions) (m : Moment) (n time : ℕ) (s after : Stored) → IsHeld d m n s → IsStore s → IsSettledUpTo d (without_first n m) time → after.slices ≡ slices_from time s.slices → NoneSettled d m after
open_from d m n time s after h o u e =
    subst (All (λ x. is_settled d m x ≡ false)) (unsettled_from d m n time s h o u ∙ sym (ap joined e))
    (All_from_members (λ x. is_settled d m x ≡ false) (unsettled d m) (λ x c. not_settled (is_settled d m x) (filter_members (λ x. not (is_settled d m x)) m.kept x c).1))

pub open_after_tuple : (d : Definitions) (m : Moment) (n : ℕ) (before : Stored) (x : Kept) (more : ℕ) (after : Stored) → IsPutStep d m n before x more after → NoneSettled d m before → NoneSettled d (with_tuple m x) after
open_after_tuple d m n before x more after p u = by more after p p.comes
  where
    by : (more : ℕ) (after : Stored) → IsPutStep d m n before x more after → Comes d n before x more after → NoneSettled d (with_tuple m x) after
    by more after p (Leaves e none) = subst (All (λ y. is_settled d (with_tuple m x) y ≡ false)) (sym (ap joined none)) (All-nil (λ y. is_settled d (with_tuple m x) y ≡ false))
    by more after p (Enters some s) = subst (All (λ y. is_settled d (with_tuple m x) y ≡ false)) (sym s.tuples) (All_from_members (λ y. is_settled d (with_tuple m x) y ≡ false) (put_in_order (tuples_of before) x) each)
      where
        h : IsHeld d m n before
        h = p.held

        put_kept : AreKept (put_in_order m.kept x)
        put_kept = ((held_after_tuple d m n before x more after p).may_leave).kept

        own : is_settled d (with_tuple m x) x ≡ false
        own = let w = not_all (λ (w : Def). is_events w.kind) d.windows some in new_tuple_is_unsettled d m w.0 x (h.may_leave).kinds put_kept w.1 w.2 p.in_time

        other : (y : Kept) → Contains (tuples_of before) y → is_settled d (with_tuple m x) y ≡ false
        other y c = false_from_ne_true (is_settled d (with_tuple m x) y) (λ g. false≢true (sym (All-contains (λ y. is_settled d m y ≡ false) (tuples_of before) y u c) ∙ tuple_settles_no_other d m x y (h.may_leave).kinds (h.may_leave).kept put_kept (of_key d m n before h y c) g))

        each : (y : Kept) → Contains (put_in_order (tuples_of before) x) y → is_settled d (with_tuple m x) y ≡ false
        each y c = elim (Contains-insert_cases (tuples_of before) _ x y c) [ inl e ↦ subst (λ z. is_settled d (with_tuple m x) z ≡ false) e own | inr b ↦ other y b ]

pub open_after_mark : (d : Definitions) (m : Moment) (n : ℕ) (before : Stored) (time : ℕ) (after : Stored) → IsMarkStep d m n before time after → m.water < time + d.lateness → NoneSettled d m before → NoneSettled d (with_mark m time) after
open_after_mark d m n before time after p behind u = subst (All (λ y. is_settled d (with_mark m time) y ≡ false)) (sym p.tuples) (All_from_members (λ y. is_settled d (with_mark m time) y ≡ false) (tuples_of before) each)
  where
    h : IsHeld d m n before
    h = p.held

    each : (y : Kept) → Contains (tuples_of before) y → is_settled d (with_mark m time) y ≡ false
    each y c = false_from_ne_true (is_settled d (with_mark m time) y) (λ g. false≢true (sym (All-contains (λ y. is_settled d m y ≡ false) (tuples_of before) y u c) ∙ mark_settles_none d m time y (h.may_leave).kinds (h.may_leave).kept (omega (arith, p.early)) behind (of_key d m n before h y c) g))

pub open_before : (d : Definitions) (m : Moment) (n water : ℕ) (s : Stored) → IsHeld d m n s → water ≤ m.water → NoneSettled d m s → NoneSettled d (at_water m water) s
open_before d m n water s h l u = All_from_members (λ y. is_settled d (at_water m water) y ≡ false) (tuples_of s) each
  where
    each : (y : Kept) → Contains (tuples_of s) y → is_settled d (at_water m water) y ≡ false
    each y c = false_from_ne_true (is_settled d (at_water m water) y) (λ g. false≢true (sym (All-contains (λ y. is_settled d m y ≡ false) (tuples_of s) y u c) ∙ move_keeps_settled d (at_water m water) m.water y (h.may_leave).kinds (h.may_leave).kept l (of_key d m n s h y c) g))

-- ---- the slices that a tuple enters
pub near_under_all_marks : (d : Definitions) (m : Moment) (n time : ℕ) (s : Stored) → IsHeld d m n s → IsStore s → m.water ≤ time + d.lateness → slices_near d.windows time s ≡ filter (is_near (has_cut d.windows m.marks) time) s.slices
near_under_all_marks d m n time s h o l = filter_same (is_near (has_cut d.windows s.marks) time) (is_near (has_cut d.windows m.marks) time) s.slices near
  where
    cuts : (a b : ℕ) → s.dropped ≤ a → has_cut d.windows s.marks a b ≡ has_cut d.windows m.marks a b
    cuts a b g = ap (λ c. list_any (λ (w : Def). cuts_between w.kind a b) d.windows || c) (sym (same_marks d m n s h a b g))

    same : (run : List Kept) → s.dropped ≤ last_time run → is_near (has_cut d.windows s.marks) time run ≡ is_near (has_cut d.windows m.marks) time run
    same run g = λ i. if nat_lt time (first_time run) then not (cuts time (first_time run) (omega (arith, h.bounded)) i) else nat_lt time (last_time run) || not (cuts (last_time run) time g i)

    near : (run : List Kept) → Contains s.slices run → is_near (has_cut d.windows s.marks) time run ≡ is_near (has_cut d.windows m.marks) time run
    near run c = same run (omega (arith, All-contains (λ run. s.dropped ≤ first_time run) s.slices run (begin_from_dropped d m n s h o) c, ends run c))
      where
        ends : (run : List Kept) → Contains s.slices run → first_time run ≤ last_time run
        ends run c = first_below_last run (All-contains (IsRun IsNear) s.slices run (runs_are_runs IsNear IsApart 0 (λ a b g. g) (λ a b g. omega (arith, g)) s.slices (o.slices).ordered) c)
