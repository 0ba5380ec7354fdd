-- What settles where a tuple, a mark or a move of the watermark comes, and that what is settled stays so.
use Rattle.std.proofs.Common.{◌≡◌, ℕ, ◌+◌, ◌<◌, ◌≤◌, true, false, not, arith, inl, inr}
use Rattle.std.specs.Prelude.{◌||◌, nat_le}
use Rattle.std.specs.List.{All, Contains, list_all}
use Rattle.std.proofs.lemmas.Bool.{cases_Bool, or_left, false_from_ne_true}
use Rattle.std.proofs.lemmas.List.Elements.{All-contains}
use Rattle.stream_base.specs.declared.def.Def.{Def}
use Rattle.stream_base.specs.declared.kept.Kept.{Kept}
use Rattle.stream_base.specs.declared.kind.Kind.{Kind}
use Rattle.stream_base.specs.declared.limits.TheConstants.{FINAL}
use Rattle.stream_base.specs.Limits.{Definitions}
use Rattle.stream_base.specs.Kinds.{IsKindWithin, is_events}
use Rattle.stream_base.specs.Model.Changes.{Moment}
use Rattle.stream_base.specs.Model.Journal.{put_in_order}
use Rattle.stream_base.specs.Model.Slices.{is_settled, is_settled_in, selects}
use Rattle.stream_base.specs.Model.Windows.{instances_of, within}
use Rattle.stream_base.proofs.Members.{Contains-insert_new, Contains-insert_old}
use Rattle.window_laws.specs.After.{at_water, with_mark, with_tuple}
use Rattle.window_laws.specs.Positions.{AreKept}
use Rattle.window_laws.specs.Settled.{IsSettledAt}
use Rattle.window_laws.proofs.SettledFacts.{all_from, all_member, settled_by_times, times_settle}
use Rattle.window_laws.proofs.KindFacts.{holding, stays_at_put, was_at_put, stays_at_mark, was_at_mark}

-- ---- all windows
events_settle : (lateness : ℕ) (m : Moment) (x : Kept) (w : Def) → is_events w.kind ≡ true → is_settled_in lateness m x w ≡ true
events_settle lateness m x w e = or_left (is_events w.kind) (list_all (λ i. not (selects x i) || nat_le (i.high + lateness) m.water) (instances_of w.kind m.kept m.marks)) e

-- from one moment to another, window by window
carried : (d : Definitions) (m n : Moment) (x : Kept) → All (λ w. IsKindWithin w.kind) d.windows → AreKept m.kept → AreKept n.kept → Contains m.kept x → Contains n.kept x
    → ((kind : Kind) → IsKindWithin kind → is_events kind ≡ false → IsSettledAt d.lateness kind m x.time → IsSettledAt d.lateness kind n x.time) → is_settled d m x ≡ true → is_settled d n x ≡ true
carried d m n x within a b c f each s =
    all_from (is_settled_in d.lateness n x) d.windows
    (λ w g. let k : IsKindWithin w.kind = All-contains (λ w. IsKindWithin w.kind) d.windows w within g in
    elim (cases_Bool (is_events w.kind)) [
      | inl e ↦ events_settle d.lateness n x w e
      | inr e ↦ times_settle d.lateness n x w b k e f (each w.kind k e (settled_by_times d.lateness m x w a k e c (all_member (is_settled_in d.lateness m x) d.windows w s g)))
    ])

pub move_keeps_settled : (d : Definitions) (m : Moment) (water : ℕ) (x : Kept) → All (λ w. IsKindWithin w.kind) d.windows → AreKept m.kept → m.water ≤ water → Contains m.kept x → is_settled d m x ≡ true → is_settled d (at_water m water) x ≡ true
move_keeps_settled d m water x within a le c = carried d m (at_water m water) x within a a c c (λ kind k e s i b l r. omega (arith, s i b l r))

pub tuple_keeps_settled : (d : Definitions) (m : Moment) (y x : Kept) → All (λ w. IsKindWithin w.kind) d.windows → AreKept m.kept → AreKept (put_in_order m.kept y) → m.water ≤ y.time + d.lateness → Contains m.kept x → is_settled d m x ≡ true → is_settled d (with_tuple m y) x ≡ true
tuple_keeps_settled d m y x within a b le c =
    carried d m (with_tuple m y) x within a b c (Contains-insert_old m.kept _ y x c)
    (λ kind k e s. stays_at_put d.lateness m a kind y x k e (All-contains (λ (z : Kept). z.time < FINAL) (put_in_order m.kept y) y b.early (Contains-insert_new m.kept _ y)) le c s)

pub tuple_settles_no_other : (d : Definitions) (m : Moment) (y x : Kept) → All (λ w. IsKindWithin w.kind) d.windows → AreKept m.kept → AreKept (put_in_order m.kept y) → Contains m.kept x → is_settled d (with_tuple m y) x ≡ true → is_settled d m x ≡ true
tuple_settles_no_other d m y x within a b c =
    carried d (with_tuple m y) m x within b a (Contains-insert_old m.kept _ y x c) c
    (λ kind k e s. was_at_put d.lateness m a kind y x k e (All-contains (λ (z : Kept). z.time < FINAL) (put_in_order m.kept y) y b.early (Contains-insert_new m.kept _ y)) c s)

pub mark_keeps_settled : (d : Definitions) (m : Moment) (time : ℕ) (x : Kept) → All (λ w. IsKindWithin w.kind) d.windows → AreKept m.kept → time < FINAL → m.water ≤ time + d.lateness → Contains m.kept x → is_settled d m x ≡ true → is_settled d (with_mark m time) x ≡ true
mark_keeps_settled d m time x within a f le c = carried d m (with_mark m time) x within a a c c (λ kind k e s. stays_at_mark d.lateness m a kind time x e f le c s)

pub mark_settles_none : (d : Definitions) (m : Moment) (time : ℕ) (x : Kept) → All (λ w. IsKindWithin w.kind) d.windows → AreKept m.kept → time < FINAL → m.water < time + d.lateness → Contains m.kept x → is_settled d (with_mark m time) x ≡ true → is_settled d m x ≡ true
mark_settles_none d m time x within a f le c = carried d (with_mark m time) m x within a a c c (λ kind k e s. was_at_mark d.lateness m a kind time x e f le c s)

-- what is settled lies before the watermark minus the lateness, unless all windows count events
pub settled_lies_before : (d : Definitions) (m : Moment) (w : Def) (x : Kept) → All (λ w. IsKindWithin w.kind) d.windows → AreKept m.kept → Contains d.windows w → is_events w.kind ≡ false → Contains m.kept x → is_settled d m x ≡ true → x.time + d.lateness < m.water
settled_lies_before d m w x within a c e f s =
    let k : IsKindWithin w.kind = All-contains (λ w. IsKindWithin w.kind) d.windows w within c in
    let j = holding w.kind m.kept m.marks x k e a.in_order (All-contains (λ (z : Kept). z.time < FINAL) m.kept x a.early f) f in
    let g : (j.0).high + d.lateness ≤ m.water = settled_by_times d.lateness m x w a k e f (all_member (is_settled_in d.lateness m x) d.windows w s c) j.0 j.1 j.2 j.3 in
    omega (arith, j.3)

pub new_tuple_is_unsettled : (d : Definitions) (m : Moment) (w : Def) (y : Kept) → All (λ w. IsKindWithin w.kind) d.windows → AreKept (put_in_order m.kept y) → Contains d.windows w → is_events w.kind ≡ false → m.water ≤ y.time + d.lateness → is_settled d (with_tuple m y) y ≡ false
new_tuple_is_unsettled d m w y within a c e le =
    false_from_ne_true (is_settled d (with_tuple m y) y)
    (λ s. let g : y.time + d.lateness < m.water = settled_lies_before d (with_tuple m y) w y within a c e (Contains-insert_new m.kept _ y) s in omega arith)
