-- What a store holds of a key it goes on to hold.
use Rattle.std.proofs.Common.{◌≡◌, ◌∙◌, ℕ, ◌+◌, ◌<◌, ◌≤◌, true, false, List, [], length, take, ap, sym, subst, arith, inl, inr}
use Rattle.std.specs.Prelude.{◌≢◌}
use Rattle.std.specs.BTreeSet.{insert_key}
use Rattle.std.specs.List.{All, Contains}
use Rattle.std.specs.Ordering.{nat_cmp}
use Rattle.std.proofs.lemmas.Bool.{or_left}
use Rattle.std.proofs.lemmas.Map.Lookups.{exact_unsigned}
use Rattle.std.proofs.lemmas.List.{drop_all, length-drop}
use Rattle.std.proofs.lemmas.List.Elements.{All-contains, All-nil, All-weaker}
use Rattle.stream_base.specs.declared.def.Def.{Def}
use Rattle.stream_base.specs.declared.kept.Kept.{Kept}
use Rattle.stream_base.specs.declared.limits.TheConstants.{FINAL}
use Rattle.stream_base.specs.Limits.{Definitions}
use Rattle.stream_base.specs.Kinds.{IsKindWithin, is_events}
use Rattle.stream_base.specs.Model.Changes.{Moment}
use Rattle.stream_base.specs.Model.Journal.{put_in_order}
use Rattle.stream_base.specs.Model.Slices.{is_settled, is_settled_in}
use Rattle.stream_base.proofs.Distinct.{All_from_members}
use Rattle.stream_base.proofs.Members.{Contains-insert_cases}
use Rattle.stream_base.proofs.Rising.{Contains-insert_key, Contains-insert_key_cases, Contains-insert_key_self}
use Rattle.stream_base.specs.Model.Moments.{moment}
use Rattle.window_laws.specs.After.{at_water, with_mark, with_tuple}
use Rattle.window_laws.specs.Positions.{AreKept}
use Rattle.window_laws.proofs.KeptFacts.{put_is_kept}
use Rattle.window_laws.proofs.LeaveChanges.{may_leave_after_mark, may_leave_after_move, may_leave_after_tuple, tuple_enters_the_rest}
use Rattle.slice_lists.proofs.Order.{nd_nil}
use Rattle.window_laws.proofs.SettledFacts.{all_from, all_member, not_all}
use Rattle.slice_lists.specs.Slices.{joined}
use Rattle.agg_store.specs.Stored.{IsSliced, Stored, tuples_of}
use Rattle.slice_lists.proofs.SliceEdits.{put_length}
use Rattle.key_parts.specs.Held.{AreSameBehind, IsHeld}
use Rattle.key_parts.specs.Moves.{Comes, Enters, IsMarkStep, IsPutStep, IsStored, Leaves, all_count_events}

-- ---- a fresh key
pub fresh_held : (d : Definitions) (water : ℕ) (s : Stored) → All (λ w. IsKindWithin w.kind) d.windows → s.slices ≡ [] → s.marks ≡ [] → s.dropped ≡ 0 → IsSliced d.windows s → IsHeld d (moment [] [] water) 0 s
fresh_held d water s kinds slices marks dropped sliced = record {
  may_leave = record {
    kinds = kinds;
    kept = record { in_order = nd_nil (λ (x : Kept). x.time); early = All-nil (λ (x : Kept). x.time < FINAL); distinct = λ i j w l m. absurd (omega arith) };
    few = omega arith;
    are_settled = All-nil (λ x. is_settled d (moment [] [] water) x ≡ true);
  };
  tuples = ap joined slices;
  sliced = sliced;
  behind = subst (All (λ (x : Kept). s.dropped ≤ x.time)) (sym (ap joined slices)) (All-nil (λ (x : Kept). s.dropped ≤ x.time));
  bounded = omega (arith, dropped);
  marks = record {
    there = λ mark l c. subst (λ ms. Contains ms mark) marks c;
    back = λ mark l c. subst (λ ms. Contains ms mark) (sym marks) c;
  };
}

-- ---- a tuple
-- where each window counts events each tuple is settled
pub all_settled : (d : Definitions) (m : Moment) (x : Kept) → all_count_events d → is_settled d m x ≡ true
all_settled d m x e = all_from (is_settled_in d.lateness m x) d.windows (λ w c. or_left (is_events w.kind) _ (all_member (λ w. is_events w.kind) d.windows w e c))

module _ (d : Definitions) (m : Moment) (n : ℕ) (before : Stored) (x : Kept) (more : ℕ) (after : Stored) (p : IsPutStep d m n before x more after) where
  put_kept : AreKept (put_in_order m.kept x)
  put_kept =
      put_is_kept m.kept x (p.lists).kept (omega (arith, p.time))
      (All-weaker (λ (y : Kept). y.position < x.position) (λ y. x.position ≢ y.position) (λ y l e. omega (arith, l, e)) m.kept (p.lists).below)

  taken_in : IsStored d before x after → (w : Def) → Contains d.windows w → is_events w.kind ≡ false → IsHeld d (with_tuple m x) n after
  taken_in s w c e =
      let h = p.held in
      let own : before.dropped ≤ x.time = omega (arith, h.bounded, p.in_time) in
      let old : (y : Kept) → Contains (tuples_of before) y → before.dropped ≤ y.time = λ y b. All-contains (λ (y : Kept). before.dropped ≤ y.time) (tuples_of before) y h.behind b in
      record {
        may_leave = may_leave_after_tuple d m n w x h.may_leave c e put_kept p.in_time;
        tuples = s.tuples ∙ ap (λ l. put_in_order l x) h.tuples ∙ ap (λ (k : Moment). k.kept) (tuple_enters_the_rest d m n w x h.may_leave c e put_kept p.in_time);
        sliced = s.sliced;
        behind = subst (λ t. All (λ (y : Kept). t ≤ y.time) (tuples_of after)) (sym s.dropped)
            (subst (All (λ (y : Kept). before.dropped ≤ y.time)) (sym s.tuples)
            (All_from_members (λ (y : Kept). before.dropped ≤ y.time) (put_in_order (tuples_of before) x)
            (λ y b. elim (Contains-insert_cases (tuples_of before) _ x y b) [ inl f ↦ subst (λ (z : Kept). before.dropped ≤ z.time) f own | inr f ↦ old y f ])));
        bounded = omega (arith, s.dropped, h.bounded);
        marks = subst (λ t. AreSameBehind t after.marks m.marks) (sym s.dropped) (subst (λ l. AreSameBehind before.dropped l m.marks) (sym s.marks) h.marks);
      }

  settled_at_once : all_count_events d → before.slices ≡ [] → IsHeld d (with_tuple m x) (n + 1) before
  settled_at_once e none =
      let h = p.held in
      let all_left : length m.kept ≤ n = omega (arith, length-drop n m.kept, ap length (sym h.tuples ∙ ap joined none)) in
      record {
        may_leave = record {
          kinds = (h.may_leave).kinds;
          kept = put_kept;
          few = omega (arith, put_length m.kept x, (h.may_leave).few);
          are_settled = All_from_members (λ y. is_settled d (with_tuple m x) y ≡ true) (take (n + 1) (put_in_order m.kept x)) (λ y c. all_settled d (with_tuple m x) y e);
        };
        tuples = ap joined none ∙ sym (drop_all (n + 1) (put_in_order m.kept x) (omega (arith, put_length m.kept x, all_left)));
        sliced = h.sliced;
        behind = h.behind;
        bounded = h.bounded;
        marks = h.marks;
      }

pub held_after_tuple : (d : Definitions) (m : Moment) (n : ℕ) (before : Stored) (x : Kept) (more : ℕ) (after : Stored) → IsPutStep d m n before x more after → IsHeld d (with_tuple m x) more after
held_after_tuple d m n before x more after p = by more after p p.comes
  where
    by : (more : ℕ) (after : Stored) → IsPutStep d m n before x more after → Comes d n before x more after → IsHeld d (with_tuple m x) more after
    by more after p (Enters some s) = let w = not_all (λ (w : Def). is_events w.kind) d.windows some in taken_in d m n before x more after p s w.0 w.1 w.2
    by more after p (Leaves e none) = settled_at_once d m n before x more after p e none

-- ---- a mark
marked_alike : (dropped time : ℕ) (some all : List ℕ) → AreSameBehind dropped some all → AreSameBehind dropped (insert_key nat_cmp some time) (insert_key nat_cmp all time)
marked_alike dropped time some all a = record {
  there = λ mark l c. more some all a.there mark l c;
  back = λ mark l c. more all some a.back mark l c;
}
  where
    more : (these those : List ℕ) → ((mark : ℕ) → dropped < mark → Contains these mark → Contains those mark) → (mark : ℕ) → dropped < mark → Contains (insert_key nat_cmp these time) mark → Contains (insert_key nat_cmp those time) mark
    more these those f mark l c = elim (Contains-insert_key_cases nat_cmp time these mark c) [
      | inl e ↦ subst (Contains (insert_key nat_cmp those time)) e (Contains-insert_key_self nat_cmp exact_unsigned time those)
      | inr b ↦ Contains-insert_key nat_cmp time those mark (f mark l b)
    ]

pub held_after_mark : (d : Definitions) (m : Moment) (n : ℕ) (before : Stored) (time : ℕ) (after : Stored) → IsMarkStep d m n before time after → IsHeld d (with_mark m time) n after
held_after_mark d m n before time after p =
    let h = p.held in
    record {
      may_leave = may_leave_after_mark d m n time h.may_leave (omega (arith, p.early)) p.in_time;
      tuples = p.tuples ∙ h.tuples;
      sliced = p.sliced;
      behind = subst (λ t. All (λ (y : Kept). t ≤ y.time) (tuples_of after)) (sym p.dropped) (subst (All (λ (y : Kept). before.dropped ≤ y.time)) (sym p.tuples) h.behind);
      bounded = omega (arith, p.dropped, h.bounded);
      marks = subst (λ t. AreSameBehind t after.marks (insert_key nat_cmp m.marks time)) (sym p.dropped) (subst (λ l. AreSameBehind before.dropped l (insert_key nat_cmp m.marks time)) (sym p.marks) (marked_alike before.dropped time before.marks m.marks h.marks));
    }

-- ---- a move of the watermark
pub held_after_move : (d : Definitions) (m : Moment) (n : ℕ) (s : Stored) (water : ℕ) → IsHeld d m n s → m.water ≤ water → IsHeld d (at_water m water) n s
held_after_move d m n s water h l = record {
  may_leave = may_leave_after_move d m n water h.may_leave l;
  tuples = h.tuples;
  sliced = h.sliced;
  behind = h.behind;
  bounded = omega (arith, h.bounded);
  marks = h.marks;
}
