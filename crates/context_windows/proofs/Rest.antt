-- What the store of a key holds: all but some first tuples that are settled.
use Rattle.std.proofs.Common.{◌≡◌, ◌∙◌, ℕ, zero, suc, ◌+◌, ◌-◌, ◌<◌, ◌≤◌, true, false, List, [], ◌∷◌, length, take, drop, ap, sym, subst, refl, arith}
use Rattle.std.specs.Prelude.{◌≢◌, nat_lt}
use Rattle.std.specs.List.{All, Contains, filter}
use Rattle.std.proofs.lemmas.Bool.{false≢true}
use Rattle.std.proofs.lemmas.List.{take-append-drop}
use Rattle.std.proofs.lemmas.List.Elements.{All-contains, All-drop, All-filter, All-weaker, Contains-append_left, Contains-append_right, Contains-get_or}
use Rattle.std.proofs.lemmas.List.Sorted.{IsNonDecreasingBy-drop}
use Rattle.stream_base.specs.declared.def.Def.{Def}
use Rattle.stream_base.specs.declared.func.Func.TheVariants.{Count}
use Rattle.stream_base.specs.declared.kept.Kept.{Kept}
use Rattle.stream_base.specs.declared.kind.Kind.TheVariants.{Marks}
use Rattle.stream_base.specs.declared.limits.TheConstants.{FINAL, TIME_MAX}
use Rattle.stream_base.specs.Laws.{TimesDoNotFall}
use Rattle.stream_base.specs.Limits.{Definitions}
use Rattle.stream_base.specs.Kinds.{IsKindWithin, is_events}
use Rattle.stream_base.specs.Model.Changes.{Moment}
use Rattle.stream_base.specs.Model.Journal.{put_in_order}
use Rattle.stream_base.specs.Model.Slices.{is_settled, is_settled_in}
use Rattle.stream_base.specs.Model.Windows.{Instance, instances_of, within}
use Rattle.window_laws.specs.After.{with_tuple}
use Rattle.window_laws.specs.Positions.{AreKept, HaveDistinctPositions}
use Rattle.window_laws.specs.Settled.{MayLeave}
use Rattle.window_laws.proofs.KindFacts.{bounds_are_ends, spans_hold_selections, EndBy}
use Rattle.window_laws.proofs.KeptFacts.{put_is_kept}
use Rattle.window_laws.proofs.LeaveChanges.{may_leave_after_tuple, tuple_enters_the_rest, firsts_leave}
use Rattle.window_laws.proofs.SettledFacts.{all_member, settled_by_times}
use Rattle.agg_store.specs.Stored.{IsSliced, Stored, tuples_of}
use Rattle.window_spans.proofs.Parts.{filter_alike}
use Rattle.context_windows.specs.Aligned.{IsOfWindows}
use Rattle.key_parts.specs.Calls.{window_at}
use Rattle.key_parts.specs.Held.{IsHeld}
use Rattle.key_parts.specs.Moves.{AreLists, Comes, IsMarkStep, IsPutStep, IsStored}
use Rattle.key_parts.specs.Moves.Comes.{Enters, Leaves}

taken : (n : ℕ) (kept : List Kept) (z : Kept) → Contains (take n kept) z → Contains kept z
taken n kept z c = subst (λ l. Contains l z) (take-append-drop n kept) (Contains-append_left (take n kept) (drop n kept) z c)

pub left_over : (n : ℕ) (kept : List Kept) (z : Kept) → Contains (drop n kept) z → Contains kept z
left_over n kept z c = subst (λ l. Contains l z) (take-append-drop n kept) (Contains-append_right (take n kept) (drop n kept) z c)

-- ---- the tuples that are left are tuples of a key
drop_distinct : (n : ℕ) (kept : List Kept) → HaveDistinctPositions kept → HaveDistinctPositions (drop n kept)
drop_distinct zero [] h = h
drop_distinct zero (x ∷ xs) h = h
drop_distinct (suc n) [] h = h
drop_distinct (suc n) (x ∷ xs) h = drop_distinct n xs (λ i j d l m. h (suc i) (suc j) d (omega arith) (omega arith))

pub rest_is_kept : (n : ℕ) (kept : List Kept) → AreKept kept → AreKept (drop n kept)
rest_is_kept n kept k = record {
  in_order = IsNonDecreasingBy-drop (λ (z : Kept). z.time) n kept k.in_order;
  early = All-drop (λ (z : Kept). z.time < FINAL) n kept k.early;
  distinct = drop_distinct n kept k.distinct;
}

-- ---- instances that end later than the watermark minus the lateness
module _ (d : Definitions) (m : Moment) (n : ℕ) (may : MayLeave d m n) (w : Def) (c : Contains d.windows w) (e : is_events w.kind ≡ false) (time : ℕ) (late : m.water - d.lateness ≤ time) where
  is_within_limits : IsKindWithin w.kind
  is_within_limits = All-contains (λ w. IsKindWithin w.kind) d.windows w may.kinds c

  ends_by : (z : Kept) → Contains (take n m.kept) z → EndBy w.kind m.kept m.marks time z.time
  ends_by z b i g l r =
      let s : is_settled d m z ≡ true = All-contains (λ x. is_settled d m x ≡ true) (take n m.kept) z may.are_settled b in
      let f : i.high + d.lateness ≤ m.water = settled_by_times d.lateness m z w may.kept is_within_limits e (taken n m.kept z b) (all_member (is_settled_in d.lateness m z) d.windows w s c) i g l r in
      omega (arith, f, late)

  open_ones : (kept : List Kept) → filter (λ (i : Instance). nat_lt time i.high) (instances_of w.kind kept m.marks) ≡ filter (λ (i : Instance). nat_lt time i.bound) (instances_of w.kind kept m.marks)
  open_ones kept =
      filter_alike (λ (i : Instance). nat_lt time i.high) (λ (i : Instance). nat_lt time i.bound) (instances_of w.kind kept m.marks)
      (All-weaker (λ (i : Instance). i.bound ≡ i.high) (λ i. nat_lt time i.high ≡ nat_lt time i.bound) (λ i f. ap (nat_lt time) (sym f)) (instances_of w.kind kept m.marks) (bounds_are_ends w.kind kept m.marks e))

  -- they are those of the tuples that are left
  pub open_alike : filter (λ (i : Instance). nat_lt time i.high) (instances_of w.kind m.kept m.marks) ≡ filter (λ (i : Instance). nat_lt time i.high) (instances_of w.kind (drop n m.kept) m.marks)
  open_alike =
      open_ones m.kept
      ∙ firsts_leave w.kind n m.kept m.marks time is_within_limits e (may.kept).in_order ends_by
      ∙ sym (open_ones (drop n m.kept))

  -- and select only of these
  pub open_selects : All (λ i. within i.low i.high (drop n m.kept) ≡ i.chosen) (filter (λ (i : Instance). nat_lt time i.high) (instances_of w.kind m.kept m.marks))
  open_selects =
      subst (All (λ i. within i.low i.high (drop n m.kept) ≡ i.chosen)) (sym open_alike)
      (All-filter (λ (i : Instance). nat_lt time i.high) (λ i. within i.low i.high (drop n m.kept) ≡ i.chosen) (instances_of w.kind (drop n m.kept) m.marks)
      (All-weaker (λ (i : Instance). i.chosen ≡ within i.low i.high (drop n m.kept)) (λ i. within i.low i.high (drop n m.kept) ≡ i.chosen) (λ i f. sym f) (instances_of w.kind (drop n m.kept) m.marks)
      (spans_hold_selections w.kind (drop n m.kept) m.marks is_within_limits e (rest_is_kept n m.kept may.kept).in_order)))

-- ---- the window
pub is_window : (d : Definitions) (window : ℕ) → window < length d.windows → Contains d.windows (window_at d window)
is_window d window l = Contains-get_or d.windows window (record { kind = Marks; func = Count }) l

-- ---- the store
-- the store holds what is left of a key, in the slices of the windows
pub record HoldsRest (d : Definitions) (m : Moment) (n : ℕ) (s : Stored) : Type 0 where
  pub may_leave : MayLeave d m n
  pub tuples : tuples_of s ≡ drop n m.kept
  pub sliced : IsSliced d.windows s

pub rest_held : (d : Definitions) (m : Moment) (n : ℕ) (s : Stored) → IsHeld d m n s → HoldsRest d m n s
rest_held d m n s h = record { may_leave = h.may_leave; tuples = h.tuples; sliced = h.sliced }

pub rest_windows : (d : Definitions) (m : Moment) (n : ℕ) (s : Stored) → HoldsRest d m n s → IsOfWindows d.windows s
rest_windows d m n s h = record {
  kinds = h.may_leave.kinds;
  sliced = h.sliced;
  in_order = subst TimesDoNotFall (sym h.tuples) (rest_is_kept n m.kept h.may_leave.kept).in_order;
  early = subst (All (λ (x : Kept). x.time < FINAL)) (sym h.tuples) (rest_is_kept n m.kept h.may_leave.kept).early;
}

-- ---- a tuple comes
stored : (d : Definitions) (n : ℕ) (before : Stored) (x : Kept) (more : ℕ) (after : Stored) (w : Def) → Contains d.windows w → is_events w.kind ≡ false → Comes d n before x more after → (more ≡ n) × IsStored d before x after
stored d n before x more after w c e (Enters some st) = (refl, st)
stored d n before x more after w c e (Leaves all none) = absurd (false≢true (sym e ∙ all_member (λ (w : Def). is_events w.kind) d.windows w all c))

pub is_stored : (d : Definitions) (n : ℕ) (before : Stored) (x : Kept) (more : ℕ) (after : Stored) (w : Def) → Contains d.windows w → is_events w.kind ≡ false → Comes d n before x more after → IsStored d before x after
is_stored d n before x more after w c e comes = (stored d n before x more after w c e comes).1

pub kept_with : (m : Moment) (x : Kept) → AreKept m.kept → AreLists m x.position → x.time ≤ TIME_MAX → AreKept (put_in_order m.kept x)
kept_with m x k l t =
    put_is_kept m.kept x k (omega arith)
    (All-weaker (λ (y : Kept). y.position < x.position) (λ (y : Kept). x.position ≢ y.position) (λ y b f. omega (arith, b, f)) m.kept l.below)

module _ (d : Definitions) (m : Moment) (n : ℕ) (before : Stored) (x : Kept) (more : ℕ) (after : Stored) (w : Def) (c : Contains d.windows w) (e : is_events w.kind ≡ false) (p : IsPutStep d m n before x more after) where
  pub rest_with : HoldsRest d (with_tuple m x) n after
  rest_with =
      let s = is_stored d n before x more after w c e p.comes in
      let k : AreKept (put_in_order m.kept x) = kept_with m x p.held.may_leave.kept p.lists p.time in
      record {
        may_leave = may_leave_after_tuple d m n w x p.held.may_leave c e k p.in_time;
        tuples =
            s.tuples
            ∙ ap (λ l. put_in_order l x) p.held.tuples
            ∙ ap (λ (a : Moment). a.kept) (tuple_enters_the_rest d m n w x p.held.may_leave c e k p.in_time);
        sliced = s.sliced;
      }

  -- the tuple enters what is left
  pub left_with : put_in_order (drop n m.kept) x ≡ drop more (put_in_order m.kept x)
  left_with =
      let k : AreKept (put_in_order m.kept x) = kept_with m x p.held.may_leave.kept p.lists p.time in
      ap (λ (a : Moment). a.kept) (tuple_enters_the_rest d m n w x p.held.may_leave c e k p.in_time)
      ∙ ap (λ k. drop k (put_in_order m.kept x)) (sym (stored d n before x more after w c e p.comes).0)

-- ---- a mark comes
pub rest_marked : (d : Definitions) (m : Moment) (n : ℕ) (before : Stored) (time : ℕ) (after : Stored) → IsMarkStep d m n before time after → HoldsRest d m n after
rest_marked d m n before time after p = record { may_leave = p.held.may_leave; tuples = p.tuples ∙ p.held.tuples; sliced = p.sliced }
