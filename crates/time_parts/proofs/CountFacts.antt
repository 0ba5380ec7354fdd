-- What a mark changes of a window of event counts, and when its next instance is filled.
use Rattle.std.proofs.Common.{◌≡◌, ◌∙◌, ℕ, ◌+◌, ◌-◌, ◌*◌, ◌/◌, ◌<◌, ◌≤◌, true, List, [], ◌++◌, ap, arith, sym, subst, refl}
use Rattle.std.specs.Prelude.{nat_le, slice_get}
use Rattle.std.specs.List.{All}
use Rattle.std.specs.Option.{option_map_or}
use Rattle.std.proofs.lemmas.Bool.{false≢true}
use Rattle.std.proofs.lemmas.List.Elements.{All-contains}
use Rattle.std.proofs.lemmas.List.Sums.{length-filter}
use Rattle.stream_base.specs.Limits.{Definitions}
use Rattle.stream_base.specs.Kinds.{IsKindWithin, is_events}
use Rattle.stream_base.specs.declared.change.Change.{Change}
use Rattle.stream_base.specs.declared.def.Def.{Def}
use Rattle.stream_base.specs.declared.kept.Kept.{Kept}
use Rattle.stream_base.specs.declared.kind.Kind.{Kind}
use Rattle.stream_base.specs.declared.kind.Kind.TheVariants.{Events}
use Rattle.stream_base.specs.declared.limits.TheConstants.{FINAL}
use Rattle.stream_base.specs.Laws.{TimesDoNotFall}
use Rattle.stream_base.specs.Model.Changes.{Moment, emissions, retractions}
use Rattle.stream_base.specs.Model.Journal.{put_in_order}
use Rattle.stream_base.specs.Model.Windows.{Instance, instances_of, standing_of}
use Rattle.window_laws.specs.After.{with_mark, with_tuple}
use Rattle.window_laws.specs.Due.{first_open}
use Rattle.window_laws.specs.Counts as whole
use Rattle.stream_base.specs.Model.Moments.{moment}
use Rattle.window_laws.proofs.NextFacts.{next_of_counts}
use Rattle.count_shift.specs.Counting.{IsNextPosition, count_of, next_filled, upper}
use Rattle.count_shift.specs.Lane.{FollowsTuples, HasMoreRoom, Laned}
use Rattle.count_shift.proofs.Behind.{follows_later, follows_with_room}
use Rattle.time_lanes.proofs.WalkFacts.{one_time_more}
use Rattle.key_parts.specs.Calls.{window_at, window_kind}
use Rattle.key_parts.specs.Work.{change_work, row_work}
use Rattle.key_parts.specs.Moves.{AreLists}
use Rattle.time_parts.specs.Places.{among, passes_at}
use Rattle.time_parts.specs.Counted.{Counts, CountsAt}
use Rattle.time_parts.proofs.DueFacts.{counts_early}
use Rattle.time_parts.proofs.LaneFacts.{nothing_changes}

-- ---- the window at the place
pub counts_at : (d : Definitions) (window : ℕ) → CountsAt d window → is_events (window_kind d window) ≡ true
counts_at d window t = passes_at (λ def. is_events def.kind) d window t

pub count_within : (d : Definitions) (window : ℕ) → CountsAt d window → All (λ w. IsKindWithin w.kind) d.windows → IsKindWithin (window_kind d window)
count_within d window t kinds = All-contains (λ w. IsKindWithin w.kind) d.windows (window_at d window) kinds (among (λ def. is_events def.kind) d window t)

pub counts_so_many : (kind : Kind) → is_events kind ≡ true → kind ≡ Events (count_of kind)
counts_so_many (Events count) t = refl
counts_so_many kind t = absurd (false≢true t)

some_events : (kind : Kind) → is_events kind ≡ true → IsKindWithin kind → 1 ≤ count_of kind
some_events kind t k = (subst IsKindWithin (counts_so_many kind t) k).0

-- a change of it takes two combines for each tuple of the instance
pub counted_work : (kind : Kind) (reach : ℕ) → is_events kind ≡ true → change_work kind reach ≡ 2 * count_of kind
counted_work kind reach t = ap (λ k. change_work k reach) (counts_so_many kind t)

-- and a row that a move completes one
pub counted_row : (kind : Kind) (reach : ℕ) → is_events kind ≡ true → row_work kind reach ≡ count_of kind
counted_row kind reach t = ap (λ k. row_work k reach) (counts_so_many kind t)

-- ---- the tuples of its lane
-- it has those that come behind the watermark minus the lateness, and at later times
pub follows_from : (d : Definitions) (window : ℕ) (m : Moment) (lane now : Laned) (count time : ℕ) → lane ≡ now → count ≡ count_of (window_kind d window) → m.water - d.lateness ≤ time → Counts d window m now → FollowsTuples count time m.kept lane
follows_from d window m lane now count time is counts le stood =
    subst (λ l. FollowsTuples count time m.kept l) (sym is)
    (subst (λ k. FollowsTuples k time m.kept now) (sym counts) (follows_later (count_of (window_kind d window)) (m.water - d.lateness) time m.kept now le stood.follows))

pub counts_with_room : (d : Definitions) (window : ℕ) (m : Moment) (old new : Laned) → HasMoreRoom old new → Counts d window m old → Counts d window m new
counts_with_room d window m old new same stood = record { counts = stood.counts; follows = follows_with_room (count_of (window_kind d window)) (m.water - d.lateness) m.kept old new same stood.follows }

-- and where those leave that no tuple shifts
pub counts_without : (d : Definitions) (window : ℕ) (m : Moment) (old new : Laned) (count time : ℕ) → count ≡ count_of (window_kind d window) → time ≡ m.water - d.lateness → ((kept : List Kept) → FollowsTuples count time kept old → FollowsTuples count time kept new) → Counts d window m old → Counts d window m new
counts_without d window m old new count time counts at on stood = record {
  counts = stood.counts;
  follows = subst (λ t. FollowsTuples (count_of (window_kind d window)) t m.kept new) at
      (subst (λ k. FollowsTuples k time m.kept new) counts (on m.kept (subst (λ k. FollowsTuples k time m.kept old) (sym counts) (subst (λ t. FollowsTuples (count_of (window_kind d window)) t m.kept old) (sym at) stood.follows))));
}

-- and one tuple more
pub counts_put : (d : Definitions) (window : ℕ) (m : Moment) (x : Kept) (old new : Laned) (count : ℕ) → count ≡ count_of (window_kind d window) → m.water ≤ x.time + d.lateness
    → ((kept : List Kept) (from : ℕ) → from ≤ x.time → FollowsTuples count from kept old → FollowsTuples count from (put_in_order kept x) new) → Counts d window m old → Counts d window (with_tuple m x) new
counts_put d window m x old new count counts in_time on stood = record {
  counts = stood.counts;
  follows = subst (λ k. FollowsTuples k (m.water - d.lateness) (put_in_order m.kept x) new) counts (on m.kept (m.water - d.lateness) (omega arith) (subst (λ k. FollowsTuples k (m.water - d.lateness) m.kept old) (sym counts) stood.follows));
}

-- its tuples have positions of their own
pub next_of_lists : (m : Moment) (next : ℕ) → AreLists m next → IsNextPosition m.kept next
next_of_lists m next lists = record { own = lists.kept.distinct; newest = lists.below }

-- what a tuple changes: nothing goes
pub told_by_put : (window : ℕ) (key : List ℕ) (w def : Def) (m : Moment) (x : Kept) (water : ℕ) (out all : List Change) → m.water ≡ water → def ≡ w
    → retractions key (moment m.kept m.marks water) (moment (put_in_order m.kept x) m.marks water) (window, def) ≡ []
    → all ≡ out ++ emissions key (moment m.kept m.marks water) (moment (put_in_order m.kept x) m.marks water) (window, def)
    → all ≡ out ++ (retractions key m (with_tuple m x) (window, w) ++ emissions key m (with_tuple m x) (window, w))
told_by_put window key w def m x water out all at is none told =
    told
    ∙ ap (λ r. out ++ (r ++ emissions key (moment m.kept m.marks water) (moment (put_in_order m.kept x) m.marks water) (window, def))) (sym none)
    ∙ (λ j. out ++ (retractions key (moment m.kept m.marks (sym at j)) (moment (put_in_order m.kept x) m.marks (sym at j)) (window, is j) ++ emissions key (moment m.kept m.marks (sym at j)) (moment (put_in_order m.kept x) m.marks (sym at j)) (window, is j)))

-- ---- a mark comes
marks_aside : (kind : Kind) (kept : List Kept) (marks others : List ℕ) (water : ℕ) → is_events kind ≡ true → standing_of kind kept marks water ≡ standing_of kind kept others water
unfolding instances_of
marks_aside (Events count) kept marks others water t = refl
marks_aside kind kept marks others water t = absurd (false≢true t)

pub mark_changes_no_count : (window : ℕ) (key : List ℕ) (w : Def) (m : Moment) (time : ℕ) → is_events w.kind ≡ true → IsKindWithin w.kind → TimesDoNotFall m.kept → retractions key m (with_mark m time) (window, w) ++ emissions key m (with_mark m time) (window, w) ≡ []
mark_changes_no_count window key w m time t k order = nothing_changes window key w m time (marks_aside w.kind m.kept m.marks (with_mark m time).marks m.water t) k order

-- ---- the watermark moves
-- the tuple that fills the next instance is the last one of the first that isn't complete
next_is_open : (count : ℕ) (w : Def) (m : Moment) → w.kind ≡ Events count → 1 ≤ count → TimesDoNotFall m.kept → next_filled count m.kept m.water ≡ first_open m w
next_is_open count w m e some order =
    let same : upper m.kept m.water ≡ whole.upper m.water m.kept = sym (length-filter (λ x. nat_le x.time m.water) m.kept) in
    ap (λ i. option_map_or (λ (x : Kept). x.time) (slice_get m.kept (i - 1)) FINAL)
    (sym (one_time_more (upper m.kept m.water / count) count) ∙ ap (λ u. (u / count + 1) * count) same)
    ∙ sym (next_of_counts count w m e some order)

pub filled_is_open : (w : Def) (m : Moment) (water count end : ℕ) → is_events w.kind ≡ true → IsKindWithin w.kind → TimesDoNotFall m.kept → count ≡ count_of w.kind → m.water ≡ water → end ≡ next_filled count m.kept water → end ≡ first_open m w
filled_is_open w m water count end t k order counts at ends =
    ends ∙ (λ i. next_filled (counts i) m.kept (sym at i)) ∙ next_is_open (count_of w.kind) w m (counts_so_many w.kind t) (some_events w.kind t k) order

-- each instance is filled before the final time
pub filled_early : (w : Def) (m : Moment) → is_events w.kind ≡ true → IsKindWithin w.kind → All (λ x. x.time < FINAL) m.kept → All (λ (i : Instance). i.bound < FINAL) (instances_of w.kind m.kept m.marks)
filled_early w m t k early = counts_early w.kind (count_of w.kind) m.kept m.marks (counts_so_many w.kind t) (some_events w.kind t k) early
