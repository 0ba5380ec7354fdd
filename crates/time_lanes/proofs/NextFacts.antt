-- The next slice of a store, and the next interval that is due.
use Rattle.std.proofs.Common.{◌≡◌, ◌∙◌, ℕ, ℤ, ◌+◌, ◌*◌, ◌<◌, ◌≤◌, max, true, false, cond, Option, Some, None, List, [], ◌∷◌, ◌++◌, length, ap, sym, refl, subst, arith, inl, inr}
use Rattle.std.specs.Prelude.{◌⊎◌, ◌&&◌, IfNone, IfSome, find, nat_le, nat_lt}
use Rattle.std.specs.List.{All, Contains}
use Rattle.std.specs.Option.{is_some, option_map, unwrap_or}
use Rattle.std.proofs.lemmas.Bool.{false≢true, cases_Bool, le-leb, leb-true, leb-false}
use Rattle.std.proofs.lemmas.List.Concat.{flat_map-append}
use Rattle.std.proofs.lemmas.List.Elements.{All-append, All-cons, All-head, All-nil, All-tail, All-weaker, filter-append, Contains-append_right}
use Rattle.stream_base.specs.declared.kept.Kept.{Kept}
use Rattle.stream_base.specs.declared.limits.TheConstants.{FINAL, TIME_MAX}
use Rattle.stream_base.specs.Model.Windows.{first_time, last_time}
use Rattle.stream_base.proofs.Rising.{Contains-head}
use Rattle.slice_lists.specs.Runs.{AreInOrder, IsAligned, runs_within}
use Rattle.window_laws.specs.Walk.{IsFirstFrom, WalksOn, due_from, next_start}
use Rattle.slice_lists.proofs.Order.{All-split}
use Rattle.slice_lists.proofs.RunEdits.{parted}
use Rattle.window_laws.proofs.WalkFacts.{none_due, walks_on}
use Rattle.slice_lists.specs.declared.slice.Slice.{Slice}
use Rattle.slice_lists.specs.Slices.{AreSlices, joined, slice_of}
use Rattle.agg_store.specs.Stored.{IsFirstWithin, IsNoneWithin, IsStore, Stored, first_from, tuples_of}
use Rattle.slice_lists.proofs.SliceFacts.{all_end}
use Rattle.slice_lists.proofs.SliceOrder.{IsApart, IsNear, first_below_last, run_above_first, run_below_last, above_slice}
use Rattle.time_lanes.specs.Held.{IsEndFrom, IsNextDue, IsNextIn}
use Rattle.time_lanes.specs.Spans.{IsSpan}
use Rattle.time_lanes.proofs.Ranges.{above, begin_below, begins_in, before_it, in_it, none_from_on, none_up_to, passed, skipped}

-- ---- where a search ends
-- the first slice from a time on stands between those that begin before it and the others
pub record IsAt (time : ℕ) (slices : List (List Kept)) (run : List Kept) : Type 0 where
  pub before : List (List Kept)
  pub behind : List (List Kept)
  pub is : slices ≡ before ++ run ∷ behind
  pub early : All (λ r. first_time r < time) before
  pub late : time ≤ first_time run

found_at : (time : ℕ) (slices : List (List Kept)) (run : List Kept) → find (λ r. nat_le time (first_time r)) slices ≡ Some run → IsAt time slices run
found_at time [] run e = absurd (none_is_not run e)
  where
    none_is_not : (run : List Kept) → None ≡ Some run → ⊥
    none_is_not run e = false≢true (ap is_some e)
found_at time (r ∷ slices) run e = by (found_at time slices run) (cases_Bool (nat_le time (first_time r)))
  where
    by : (find (λ r. nat_le time (first_time r)) slices ≡ Some run → IsAt time slices run) → (nat_le time (first_time r) ≡ true) ⊎ (nat_le time (first_time r) ≡ false) → IsAt time (r ∷ slices) run
    by later (inl t) =
        let same : r ≡ run = ap (λ o. unwrap_or o r) (sym (ap (λ b. cond b (Some r) (find (λ r. nat_le time (first_time r)) slices)) t) ∙ e) in
        record {
          before = [];
          behind = slices;
          is = ap (λ q. q ∷ slices) same;
          early = All-nil (λ (r : List Kept). first_time r < time);
          late = subst (λ q. time ≤ first_time q) same (leb-true time (first_time r) t);
        }
    by later (inr f) =
        let rest : IsAt time slices run = later (sym (ap (λ b. cond b (Some r) (find (λ r. nat_le time (first_time r)) slices)) f) ∙ e) in
        record {
          before = r ∷ rest.before;
          behind = rest.behind;
          is = ap (λ l. r ∷ l) rest.is;
          early = All-cons (λ (r : List Kept). first_time r < time) r rest.before (leb-false time (first_time r) f) rest.early;
          late = rest.late;
        }

none_at : (time : ℕ) (slices : List (List Kept)) → find (λ r. nat_le time (first_time r)) slices ≡ None → All (λ r. first_time r < time) slices
none_at time [] e = All-nil (λ (r : List Kept). first_time r < time)
none_at time (r ∷ slices) e = by (none_at time slices) (cases_Bool (nat_le time (first_time r)))
  where
    by : (find (λ r. nat_le time (first_time r)) slices ≡ None → All (λ r. first_time r < time) slices) → (nat_le time (first_time r) ≡ true) ⊎ (nat_le time (first_time r) ≡ false) → All (λ r. first_time r < time) (r ∷ slices)
    by later (inl t) = absurd (some_is_not r (sym (ap (λ b. cond b (Some r) (find (λ r. nat_le time (first_time r)) slices)) t) ∙ e))
      where
        some_is_not : (r : List Kept) → Some r ≡ None → ⊥
        some_is_not r e = false≢true (sym (ap is_some e))
    by later (inr f) = All-cons (λ (r : List Kept). first_time r < time) r slices (leb-false time (first_time r) f) (later (sym (ap (λ b. cond b (Some r) (find (λ r. nat_le time (first_time r)) slices)) f) ∙ e))

-- what `slice_from` answers
answered : (o : Option (List Kept)) (slice : Slice) → Some slice ≡ option_map slice_of o → (run : List Kept) × (o ≡ Some run) × (slice ≡ slice_of run)
answered None slice e = absurd (some_is_not slice e)
  where
    some_is_not : (s : Slice) → Some s ≡ None → ⊥
    some_is_not s e = false≢true (sym (ap is_some e))
answered (Some run) slice e = (run, refl, ap (λ o. unwrap_or o slice) e)

not_answered : (o : Option (List Kept)) → None ≡ option_map slice_of o → o ≡ None
not_answered None e = refl
not_answered (Some run) e = absurd (none_is_not (slice_of run) e)
  where
    none_is_not : (s : Slice) → None ≡ Some s → ⊥
    none_is_not s e = false≢true (ap is_some e)

-- ---- the first slice that begins in an interval
module _ (slices : List (List Kept)) (o : AreSlices slices) (from to : ℕ) where
  pub none_next : None ≡ option_map slice_of (find (λ r. nat_le from (first_time r)) slices) → runs_within from to slices ≡ []
  none_next e = none_up_to from to slices (none_at from slices (not_answered (find (λ r. nat_le from (first_time r)) slices) e))

  module _ (run : List Kept) (h : IsAt from slices run) where
    ordered : AreInOrder (h.before ++ run ∷ h.behind)
    ordered = subst AreInOrder h.is o.ordered

    own : AreInOrder (run ∷ h.behind)
    own = (parted IsNear IsApart h.before (run ∷ h.behind) ordered).1

    ends : first_time run ≤ last_time run
    ends = first_below_last run own.0

    -- the slices of an interval are those before, perhaps this one, and those behind
    pub parts : (low high : ℕ) → runs_within low high slices ≡ runs_within low high h.before ++ runs_within low high (run ∷ h.behind)
    parts low high = ap (runs_within low high) h.is ∙ filter-append (begins_in low high) h.before (run ∷ h.behind)

    pub none_before : (low high : ℕ) → first_time run ≤ low → runs_within low high h.before ≡ []
    none_before low high l = none_up_to low high h.before (All-weaker (λ (r : List Kept). first_time r < first_time run) (λ r. first_time r < low) (λ r m. omega arith) h.before (begin_below h.before run h.behind ordered))

    none_early : (high : ℕ) → runs_within from high h.before ≡ []
    none_early high = none_up_to from high h.before h.early

    behind_above : All (λ r. last_time run < first_time r) h.behind
    behind_above = above run h.behind own.1 own.2

    same_behind : (runs : List (List Kept)) → All (λ r. last_time run < first_time r) runs → runs_within from to runs ≡ runs_within (last_time run + 1) to runs
    same_behind [] a = refl
    same_behind (r ∷ runs) a =
        let l : last_time run < first_time r = All-head (λ (r : List Kept). last_time run < first_time r) r runs a in
        let m : from ≤ first_time run = h.late in
        let e : begins_in from to r ≡ begins_in (last_time run + 1) to r = ap (λ b. b && nat_lt (first_time r) to) (le-leb from (first_time r) (omega (arith, ends)) ∙ sym (le-leb (last_time run + 1) (first_time r) (omega arith))) in
        let rest : runs_within from to runs ≡ runs_within (last_time run + 1) to runs = same_behind runs (All-tail (λ (r : List Kept). last_time run < first_time r) r runs a) in
        λ i. cond (e i) (r ∷ rest i) (rest i)

    pub first_in : first_time run < to → runs_within from to slices ≡ run ∷ runs_within (last_time run + 1) to slices
    first_in l =
        parts from to
        ∙ (λ i. none_early to i ++ passed from to run h.behind (in_it from to (first_time run) h.late l) i)
        ∙ ap (λ q. run ∷ q) (same_behind h.behind behind_above)
        ∙ ap (λ q. run ∷ q) (sym (parts (last_time run + 1) to ∙ (λ i. none_before (last_time run + 1) to (omega (arith, ends)) i ++ skipped (last_time run + 1) to run h.behind (before_it (last_time run + 1) to (first_time run) (omega (arith, ends))) i)))

    pub none_in : to ≤ first_time run → runs_within from to slices ≡ []
    none_in l =
        parts from to
        ∙ (λ i. none_early to i ++ none_from_on from to (run ∷ h.behind) (All-cons (λ (r : List Kept). to ≤ first_time r) run h.behind l (All-weaker (λ (r : List Kept). last_time run < first_time r) (λ r. to ≤ first_time r) (λ r m. omega (arith, ends)) h.behind behind_above)) i)

    pub in_time : last_time run ≤ TIME_MAX
    in_time = All-head (λ (r : List Kept). last_time r ≤ TIME_MAX) run h.behind (All-split (λ (r : List Kept). last_time r ≤ TIME_MAX) h.before (run ∷ h.behind) (subst (All (λ r. last_time r ≤ TIME_MAX)) h.is (all_end slices o))).1

-- what a store found
pub none_map : {X P Q : Type 0} (o : Option X) → (P → Q) → IfNone o P → IfNone o Q
none_map None f h = f h
none_map (Some x) f h = tt

pub some_next : {M : Type 0} (of_values : List ℤ → M) (slices : List (List Kept)) → AreSlices slices → (from to : ℕ) (found : Slice × M) → IsFirstWithin of_values slices from to found → IsNextIn of_values slices from to found
some_next of_values slices o from to found h =
    let at = found_at from slices h.run h.first in
    subst (IsNextIn of_values slices from to) (sym h.shows)
    record {
      run = h.run;
      partial = refl;
      first = first_in slices o from to h.run at h.before;
      after = at.late;
      before = h.before;
      ordered = ends slices o from to h.run at;
      time = in_time slices o from to h.run at;
    }

pub none_left : (slices : List (List Kept)) → AreSlices slices → (from to : ℕ) → IsNoneWithin slices from to → runs_within from to slices ≡ []
none_left slices o from to none = by none (first_from slices from) refl
  where
    by : IsNoneWithin slices from to → (found : Option (List Kept)) → first_from slices from ≡ found → runs_within from to slices ≡ []
    by n None e = none_next slices o from to (sym (ap (option_map slice_of) e))
    by n (Some run) e = none_in slices o from to run (found_at from slices run e) (subst (λ found. IfSome found (λ run. to ≤ first_time run)) e n)

-- ---- the next interval
-- slices that begin before a time, and have no tuples on both sides of it, lie before it
all_early : (time : ℕ) (runs : List (List Kept)) → AreInOrder runs → IsAligned runs time → All (λ r. first_time r < time) runs → All (λ x. x.time < time) (joined runs)
all_early time [] o a h = All-nil (λ (x : Kept). x.time < time)
all_early time (run ∷ runs) o a h =
    All-append (λ (x : Kept). x.time < time) run (joined runs)
    (All-weaker (λ (x : Kept). x.time ≤ last_time run) (λ x. x.time < time) (λ x l. omega (arith, ends)) run (run_below_last run o.0))
    (all_early time runs o.2 (All-tail (λ (r : List Kept). (last_time r < time) ⊎ (time ≤ first_time r)) run runs a) (All-tail (λ (r : List Kept). first_time r < time) run runs h))
  where
    ends : last_time run < time
    ends =
        let l : first_time run < time = All-head (λ (r : List Kept). first_time r < time) run runs h in
        elim (All-head (λ (r : List Kept). (last_time r < time) ⊎ (time ≤ first_time r)) run runs a) [ inl e ↦ e | inr e ↦ absurd (omega arith) ]

pub none_due_next : (length slide : ℕ) (s : Stored) (from new : ℕ) → IsSpan length slide → IsStore s → IsAligned s.slices from → None ≡ option_map slice_of (find (λ r. nat_le from (first_time r)) s.slices) → due_from length slide (tuples_of s) from new ≡ []
none_due_next length slide s from new span o a e =
    none_due length slide (tuples_of s) from new span.moves span.overlaps
    (all_early from s.slices o.slices.ordered a (none_at from s.slices (not_answered (find (λ r. nat_le from (first_time r)) s.slices) e)))

-- its first tuple is the first one from the time on
first_tuple : (from : ℕ) (slices : List (List Kept)) (run : List Kept) → AreSlices slices → IsAligned slices from → IsAt from slices run → (x : Kept) × IsFirstFrom (joined slices) from x × (x.time ≡ first_time run)
first_tuple from slices [] o a h = absurd ((parted IsNear IsApart h.before ([] ∷ h.behind) (subst AreInOrder h.is o.ordered)).1.0)
first_tuple from slices (x ∷ xs) o a h =
    (x, record { member = member; after = h.late; first = first }, refl)
  where
    order : AreInOrder (h.before ++ (x ∷ xs) ∷ h.behind)
    order = subst AreInOrder h.is o.ordered

    three : joined slices ≡ joined h.before ++ ((x ∷ xs) ++ joined h.behind)
    three = ap joined h.is ∙ flat_map-append (λ (r : List Kept). r) h.before ((x ∷ xs) ∷ h.behind)

    member : Contains (joined slices) x
    member = subst (λ l. Contains l x) (sym three) (Contains-append_right (joined h.before) ((x ∷ xs) ++ joined h.behind) x (Contains-head x (xs ++ joined h.behind)))

    halves : AreInOrder h.before × AreInOrder ((x ∷ xs) ∷ h.behind)
    halves = let p = parted IsNear IsApart h.before ((x ∷ xs) ∷ h.behind) order in (p.0, p.1)

    first : All (λ y. (y.time < from) ⊎ (x.time ≤ y.time)) (joined slices)
    first =
        subst (All (λ y. (y.time < from) ⊎ (x.time ≤ y.time))) (sym three)
        (All-append (λ (y : Kept). (y.time < from) ⊎ (x.time ≤ y.time)) (joined h.before) ((x ∷ xs) ++ joined h.behind)
        (All-weaker (λ (y : Kept). y.time < from) (λ y. (y.time < from) ⊎ (x.time ≤ y.time)) (λ y l. inl l) (joined h.before)
        (all_early from h.before halves.0 (All-split (λ (r : List Kept). (last_time r < from) ⊎ (from ≤ first_time r)) h.before ((x ∷ xs) ∷ h.behind) (subst (λ s. IsAligned s from) h.is a)).0 h.early))
        (All-append (λ (y : Kept). (y.time < from) ⊎ (x.time ≤ y.time)) (x ∷ xs) (joined h.behind)
        (All-weaker (λ (y : Kept). x.time ≤ y.time) (λ y. (y.time < from) ⊎ (x.time ≤ y.time)) (λ y l. inr l) (x ∷ xs) (run_above_first (x ∷ xs) halves.1.0))
        (All-weaker (λ (y : Kept). last_time (x ∷ xs) < y.time) (λ y. (y.time < from) ⊎ (x.time ≤ y.time)) (λ y l. inr (let f : x.time ≤ last_time (x ∷ xs) = first_below_last (x ∷ xs) halves.1.0 in omega arith)) (joined h.behind) (above_slice (x ∷ xs) h.behind halves.1.1 halves.1.2))))

module _ (length slide : ℕ) (s : Stored) (from new k : ℕ) (multiple : from ≡ k * slide) (span : IsSpan length slide) (o : IsStore s) (a : IsAligned s.slices from) (slice : Slice) (e : Some slice ≡ option_map slice_of (find (λ r. nat_le from (first_time r)) s.slices)) (early : next_start length slide slice.low ≤ slice.low) where
  found : (run : List Kept) × IsAt from s.slices run × (slice.low ≡ first_time run)
  found =
      let q = answered (find (λ r. nat_le from (first_time r)) s.slices) slice e in
      (q.0, found_at from s.slices q.0 q.1, ap (λ (t : Slice). t.low) q.2)

  walks : WalksOn length slide (tuples_of s) from (max from (next_start length slide slice.low)) new
  walks =
      let x = first_tuple from s.slices found.0 o.slices a found.1 in
      let same : (x.0).time ≡ slice.low = x.2 ∙ sym found.2 in
      subst (λ t. WalksOn length slide (tuples_of s) from (max from (next_start length slide t)) new) same
      (subst (λ f. WalksOn length slide (tuples_of s) f (max f (next_start length slide (x.0).time)) new) (sym multiple)
      (walks_on length slide (tuples_of s) k new x.0 span.moves span.overlaps (subst (λ f. IsFirstFrom (tuples_of s) f x.0) multiple x.1)))

  pub due_next : (low : ℕ) → low ≡ max from (next_start length slide slice.low) → low + length ≤ new → IsNextDue length slide s from new low
  due_next low is l =
      subst (IsNextDue length slide s from new) (sym is)
      record {
        multiple = walks.multiple;
        onward = omega arith;
        ends = omega arith;
        due = walks.goes_on (omega arith);
        none_between = none_in s.slices o.slices from (max from (next_start length slide slice.low)) found.0 found.1 (let late : from ≤ first_time found.0 = (found.1).late in omega (arith, found.2));
      }

  pub none_due_here : (low : ℕ) → low ≡ max from (next_start length slide slice.low) → new < low + length → due_from length slide (tuples_of s) from new ≡ []
  none_due_here low is l = walks.ends (omega arith)

  pub ends_at : (end : ℕ) → end ≡ max (next_start length slide slice.low) from + length → IsEndFrom length slide (tuples_of s) from end
  ends_at end is =
      let x = first_tuple from s.slices found.0 o.slices a found.1 in
      let same : (x.0).time ≡ slice.low = x.2 ∙ sym found.2 in
      inl (x.0, x.1, is ∙ ap (λ n. n + length) (omega arith) ∙ ap (λ t. max from (next_start length slide t) + length) (sym same))

pub none_ends : (length slide : ℕ) (s : Stored) (from : ℕ) → IsStore s → IsAligned s.slices from → None ≡ option_map slice_of (find (λ r. nat_le from (first_time r)) s.slices) → IsEndFrom length slide (tuples_of s) from FINAL
none_ends length slide s from o a e =
    inr (all_early from s.slices o.slices.ordered a (none_at from s.slices (not_answered (find (λ r. nat_le from (first_time r)) s.slices) e)), refl)

-- it lies within the limits of times
pub low_in_time : (slices : List (List Kept)) → AreSlices slices → (from : ℕ) (slice : Slice) → Some slice ≡ option_map slice_of (find (λ r. nat_le from (first_time r)) slices) → slice.low ≤ TIME_MAX
low_in_time slices o from slice e =
    let a = answered (find (λ r. nat_le from (first_time r)) slices) slice e in
    let h = found_at from slices a.0 a.1 in
    let l : last_time a.0 ≤ TIME_MAX = in_time slices o from from a.0 h in
    let m : first_time a.0 ≤ last_time a.0 = ends slices o from from a.0 h in
    omega (arith, ap (λ (s : Slice). s.low) a.2)
