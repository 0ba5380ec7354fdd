-- What a lane meets where a tuple or a mark comes, where the watermark moves, and where slices leave.
use Rattle.std.proofs.Common.{cond, ◌≡◌, ◌∙◌, ℕ, ◌+◌, ◌*◌, ◌<◌, ◌≤◌, true, false, Option, Some, List, [], ◌∷◌, ◌++◌, length, take, drop, map, ap, sym, refl, subst, arith, inl, inr}
use Rattle.std.specs.Prelude.{◌&&◌, ◌⊎◌, find, nat_le, nat_lt}
use Rattle.std.specs.List.{filter}
use Rattle.std.specs.List.Sorted.{IsNonDecreasingBy}
use Rattle.std.specs.Option.{option_map_or}
use Rattle.std.proofs.lemmas.Bool.{and_right, cases_Bool, lt-leb}
use Rattle.std.proofs.lemmas.List.{length-map, take-append-drop}
use Rattle.std.proofs.lemmas.List.Elements.{All-cons, All-weaker}
use Rattle.stream_base.specs.Limits.{Definitions}
use Rattle.stream_base.specs.Kinds.{events_in, IsKindWithin, is_events, is_timed, length_of}
use Rattle.stream_base.specs.declared.change.Change.{Change}
use Rattle.stream_base.specs.declared.change.Change.TheVariants.{New}
use Rattle.stream_base.specs.declared.former.Former.{Former}
use Rattle.stream_base.specs.declared.def.Def.{Def}
use Rattle.stream_base.specs.declared.kept.Kept.{Kept}
use Rattle.stream_base.specs.declared.kind.Kind.{Kind}
use Rattle.stream_base.specs.declared.limits.TheConstants.{FINAL}
use Rattle.stream_base.specs.Laws.{TimesDoNotFall, becomes_complete, completions}
use Rattle.stream_base.specs.Model.Changes.{Moment, emissions, retractions, row_of}
use Rattle.stream_base.specs.Model.Journal.{put_in_order}
use Rattle.stream_base.specs.Model.Windows.{Instance, instances_of, standing_of}
use Rattle.stream_base.proofs.ChangeFacts.{none_emitted, none_retracted}
use Rattle.stream_base.proofs.KindFacts.{standing_rises, timed_counts_not, timed_stand_at_mark}
use Rattle.window_laws.specs.After.{with_mark, with_tuple}
use Rattle.window_laws.specs.Due.{first_open}
use Rattle.window_laws.proofs.KindFacts.{bounds_do_not_fall}
use Rattle.window_laws.proofs.LateFacts.{timed_none_gone}
use Rattle.stream_base.proofs.Filters.{filter_none}
use Rattle.stream_base.specs.Model.Moments.{moment}
use Rattle.slice_lists.proofs.Order.{nd_head, nd_tail}
use Rattle.agg_store.specs.Stored.{Stored, tuples_of}
use Rattle.time_lanes.specs.Told.{former_at}
use Rattle.time_lanes.specs.Late.{IsLate, complete_holding, formers_of}
use Rattle.key_parts.specs.Calls.{window_at}
use Rattle.key_parts.specs.Moves.{IsPutStep}
use Rattle.key_parts.specs.Work.{fold_work, change_work, row_work, slice_work}
use Rattle.time_parts.specs.Untold.{taken_in}
use Rattle.time_parts.specs.Lanes.{IsTimedAt}
use Rattle.time_parts.proofs.WindowFacts.{apart_at}

-- ---- a mark comes
-- where the same stands, nothing changes
pub nothing_changes : (window : ℕ) (key : List ℕ) (w : Def) (m : Moment) (time : ℕ) → standing_of w.kind m.kept m.marks m.water ≡ standing_of w.kind m.kept (with_mark m time).marks m.water → IsKindWithin w.kind → TimesDoNotFall m.kept → retractions key m (with_mark m time) (window, w) ++ emissions key m (with_mark m time) (window, w) ≡ []
nothing_changes window key w m time same k order =
    let gone : retractions key m (with_mark m time) (window, w) ≡ [] = none_retracted window key w.func (standing_of w.kind m.kept (with_mark m time).marks m.water) (standing_of w.kind m.kept m.marks m.water) same in
    let come : emissions key m (with_mark m time) (window, w) ≡ [] = none_emitted window key w.func (standing_of w.kind m.kept m.marks m.water) (standing_of w.kind m.kept (with_mark m time).marks m.water) (standing_rises w.kind m.kept m.marks m.water k order) same in
    λ i. gone i ++ come i

-- a mark changes no interval
pub mark_changes_nothing : (window : ℕ) (key : List ℕ) (w : Def) (m : Moment) (time : ℕ) → is_timed w.kind ≡ true → IsKindWithin w.kind → TimesDoNotFall m.kept → retractions key m (with_mark m time) (window, w) ++ emissions key m (with_mark m time) (window, w) ≡ []
mark_changes_nothing window key w m time t k order = nothing_changes window key w m time (timed_stand_at_mark w.kind m.kept m.marks (with_mark m time).marks m.water t) k order

-- ---- the watermark moves
not_yet : (water new : ℕ) (i : Instance) → new < i.bound → becomes_complete water new i ≡ false
not_yet water new i l = and_right (nat_lt water i.bound) (nat_le i.bound new) (lt-leb i.bound new l)

-- up to the bound of the first instance that isn't complete none becomes so
none_before : (water new : ℕ) (is : List Instance) → IsNonDecreasingBy (λ (i : Instance). i.bound) is → new < option_map_or (λ (i : Instance). i.bound) (find (λ (i : Instance). nat_lt water i.bound) is) FINAL → filter (becomes_complete water new) is ≡ []
none_before water new [] h l = refl
none_before water new (i ∷ is) h l = by (cases_Bool (nat_lt water i.bound)) (none_before water new is (nd_tail (λ (i : Instance). i.bound) i is h))
  where
    by : (nat_lt water i.bound ≡ true) ⊎ (nat_lt water i.bound ≡ false) → (new < option_map_or (λ (i : Instance). i.bound) (find (λ (i : Instance). nat_lt water i.bound) is) FINAL → filter (becomes_complete water new) is ≡ []) → filter (becomes_complete water new) (i ∷ is) ≡ []
    by (inl e) rest =
        let b : new < i.bound = subst (λ b. new < option_map_or (λ (i : Instance). i.bound) (cond b (Some i) (find (λ (i : Instance). nat_lt water i.bound) is)) FINAL) e l in
        filter_none (becomes_complete water new) (i ∷ is)
        (All-cons (λ (j : Instance). becomes_complete water new j ≡ false) i is (not_yet water new i b)
        (All-weaker (λ (j : Instance). i.bound ≤ j.bound) (λ j. becomes_complete water new j ≡ false) (λ j m. not_yet water new j (omega arith)) is (nd_head (λ (i : Instance). i.bound) i is h)))
    by (inr e) rest =
        ap (λ b. cond (b && nat_le i.bound new) (i ∷ filter (becomes_complete water new) is) (filter (becomes_complete water new) is)) e
        ∙ rest (subst (λ b. new < option_map_or (λ (i : Instance). i.bound) (cond b (Some i) (find (λ (i : Instance). nat_lt water i.bound) is)) FINAL) e l)

pub none_due : (window : ℕ) (key : List ℕ) (w : Def) (m : Moment) (new : ℕ) → IsKindWithin w.kind → TimesDoNotFall m.kept → new < first_open m w → completions key m new (window, w) ≡ []
none_due window key w m new k order l =
    ap (map (λ i. New (row_of window key w.func i))) (none_before m.water new (instances_of w.kind m.kept m.marks) (bounds_do_not_fall w.kind m.kept m.marks k order) l)

-- ---- all tuples of a key are those that left and those that the store holds
module _ (m : Moment) (n water : ℕ) (tuples : List Kept) (is : m.water ≡ water) (held : tuples ≡ drop n m.kept) where
  pub all_held : take n m.kept ++ tuples ≡ m.kept
  all_held = ap (λ l. take n m.kept ++ l) held ∙ take-append-drop n m.kept

  pub told_of_all : (w : Def) (time : ℕ) (old new : List (Option Former)) → old ≡ [] → new ≡ old ++ formers_of w time water (take n m.kept ++ tuples) → new ≡ formers_of w time m.water m.kept
  told_of_all w time old new none told = told ∙ (λ i. none i ++ formers_of w time (sym is i) (all_held i))

  pub completed_of_all : (w : Def) (window : ℕ) (key : List ℕ) (to : ℕ) (old new : List Change) → new ≡ old ++ completions key (moment (take n m.kept ++ tuples) m.marks water) to (window, w) → new ≡ old ++ completions key m to (window, w)
  completed_of_all w window key to old new told = told ∙ (λ i. old ++ completions key (moment (all_held i) m.marks (sym is i)) to (window, w))

  pub changed_of_all : (w : Def) (window : ℕ) (key : List ℕ) (x : Kept) (old new : List Change) → is_timed w.kind ≡ true → IsKindWithin w.kind → new ≡ old ++ emissions key (moment (take n m.kept ++ tuples) m.marks water) (with_tuple (moment (take n m.kept ++ tuples) m.marks water) x) (window, w)
      → new ≡ old ++ (retractions key m (with_tuple m x) (window, w) ++ emissions key m (with_tuple m x) (window, w))
  changed_of_all w window key x old new t k told =
      told
      ∙ (λ i. old ++ emissions key (moment (all_held i) m.marks (sym is i)) (with_tuple (moment (all_held i) m.marks (sym is i)) x) (window, w))
      ∙ ap (λ q. old ++ (q ++ emissions key m (with_tuple m x) (window, w))) (sym (timed_none_gone window key w m x t k))

-- ---- what a tuple finds
pub told_number : (w : Def) (time water : ℕ) (m : Moment) (formers : List (Option Former)) → m.water ≡ water → formers ≡ formers_of w time m.water m.kept → length formers ≡ length (complete_holding w.kind time water)
told_number w time water m formers is told =
    ap length told
    ∙ length-map (complete_holding w.kind time m.water) (former_at w.func (length_of w.kind) m.kept)
    ∙ ap (λ k. length (complete_holding w.kind time k)) is

-- a change of it takes one fold
pub timed_work : (kind : Kind) (reach : ℕ) → is_timed kind ≡ true → change_work kind reach ≡ 64 * (reach + 2)
timed_work kind reach t = ap (λ b. cond b (2 * events_in kind) (fold_work reach)) (timed_counts_not kind t)

-- a slice takes ten steps of a move
pub timed_slice : (kind : Kind) → is_timed kind ≡ true → slice_work kind ≡ 10
timed_slice kind t = ap (λ b. cond b 10 0) t

-- and a row that a move completes one
pub timed_row : (kind : Kind) (reach : ℕ) → is_timed kind ≡ true → row_work kind reach ≡ 1
timed_row kind reach t = ap (λ b. cond b 1 (cond (is_events kind) (events_in kind) (fold_work reach))) t

-- the store holds it in its place, and what stood is told of all tuples before
pub is_late : (d : Definitions) (window : ℕ) (m : Moment) (n : ℕ) (before : Stored) (x : Kept) (more : ℕ) (after : Stored) (formers : List (Option Former)) (water : ℕ) → IsTimedAt d window → IsPutStep d m n before x more after → m.water ≡ water → formers ≡ formers_of (window_at d window) x.time m.water m.kept → IsLate (window_at d window) x.time water (take n m.kept) (drop n m.kept) x formers after
is_late d window m n before x more after formers water t step is told =
    let stored = (taken_in d window n before x more after t step.comes).0 in
    let put : tuples_of after ≡ put_in_order (drop n m.kept) x = stored.tuples ∙ ap (λ l. put_in_order l x) step.held.tuples in
    record {
      at = refl;
      put = put;
      ordered = subst TimesDoNotFall (sym (take-append-drop n m.kept)) (step.held.may_leave.kept).in_order;
      apart = apart_at d window m n t step.held.may_leave x.time step.in_time;
      stood = told ∙ (λ i. formers_of (window_at d window) x.time (is i) (sym (take-append-drop n m.kept) i));
    }
