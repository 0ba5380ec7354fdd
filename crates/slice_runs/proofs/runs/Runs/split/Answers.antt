-- The tuples stay, and the slice shows as two.
use Rattle.std.proofs.Common.{◌≡◌, ◌∙◌, ◌<◌, ◌≤◌, [], ap, arith, sym, length, get_or}
use Rattle.stream_base.specs.declared.limits.TheConstants.{TIME_MAX}
use Rattle.stream_base.specs.Model.Windows.{first_time, last_time}
use Rattle.slice_lists.specs.declared.slice.Slice.{Slice}
use Rattle.slice_lists.specs.Parted.{parted_by}
use Rattle.slice_lists.specs.Slices.{slice_of, split_at}
use Rattle.slice_lists.proofs.SliceEdits.{kept_again, parted_again, shown_at}
use Rattle.slice_lists.proofs.SliceFacts.{all_end}
use Rattle.slice_lists.proofs.SplitFacts.{some_tuples, split_hold, split_shown, split_tuples}
use Rattle.slice_runs.proofs.Parts.{back_shown, both_parts, front_shown, some_back, some_front}
use Rattle.slice_runs.proofs.runs.Runs.split.Goals as goal

pub shown-front-requires : goal.shown-front-requires
shown-front-requires c =
    let a = c.self.inside in
    let runs = parted_by a.bounds.items a.tuples.tuples in
    let at = c.args.at in
    let run = get_or runs at [] in
    let l : at < length runs = rw (← c.self.view_is) at c.requires.within in
    let before : first_time run < c.args.time = rw (← c.self.view_is) at c.requires.before in
    let behind : c.args.time ≤ last_time run = rw (← c.self.view_is) at c.requires.behind in
    let shown : c.index-slice.result.now ≡ slice_of run = shown_at runs a.bounds.items at c.index-slice.result.now c.self.invariant.parted.shown l c.index-slice.ensures in
    let front = front_shown runs at l c.self.invariant.parted.hold.ordered a.tuples.tuples c.self.invariant.parted.together c.index-slice.result.now shown c.args.time behind in
    omega (arith, ap length front, some_front run c.args.time (some_tuples run c.args.time before behind) before)

pub overflow_add-slice : goal.overflow_add-slice
overflow_add-slice c =
    let a = c.self.inside in
    let runs = parted_by a.bounds.items a.tuples.tuples in
    let l : c.args.at < length runs = rw (← c.self.view_is) at c.requires.within in
    let shown : c.index-slice.result.now ≡ slice_of (get_or runs c.args.at []) = shown_at runs a.bounds.items c.args.at c.index-slice.result.now c.self.invariant.parted.shown l c.index-slice.ensures in
    let end : last_time (get_or runs c.args.at []) ≤ TIME_MAX = all_end runs c.self.invariant.parted.hold c.args.at [] l in
    omega (arith, ap (λ (s : Slice). s.high) shown, end)

pub shown-back-requires : goal.shown-back-requires
shown-back-requires c =
    let a = c.self.inside in
    let runs = parted_by a.bounds.items a.tuples.tuples in
    let at = c.args.at in
    let run = get_or runs at [] in
    let l : at < length runs = rw (← c.self.view_is) at c.requires.within in
    let before : first_time run < c.args.time = rw (← c.self.view_is) at c.requires.before in
    let behind : c.args.time ≤ last_time run = rw (← c.self.view_is) at c.requires.behind in
    let shown : c.index-slice.result.now ≡ slice_of run = shown_at runs a.bounds.items at c.index-slice.result.now c.self.invariant.parted.shown l c.index-slice.ensures in
    let back = back_shown runs at l c.self.invariant.parted.hold.ordered a.tuples.tuples c.self.invariant.parted.together c.index-slice.result.now shown c.args.time before in
    omega (arith, ap length back, some_back run c.args.time (some_tuples run c.args.time before behind) behind)

pub invariant_of-self : goal.invariant_of-self
invariant_of-self c =
    let a = c.self.inside in
    let runs = parted_by a.bounds.items a.tuples.tuples in
    let at = c.args.at in
    let time = c.args.time in
    let run = get_or runs at [] in
    let l : at < length runs = rw (← c.self.view_is) at c.requires.within in
    let before : first_time run < time = rw (← c.self.view_is) at c.requires.before in
    let behind : time ≤ last_time run = rw (← c.self.view_is) at c.requires.behind in
    let order = c.self.invariant.parted.hold.ordered in
    let together = c.self.invariant.parted.together in
    let shown : c.index-slice.result.now ≡ slice_of run = shown_at runs a.bounds.items at c.index-slice.result.now c.self.invariant.parted.shown l c.index-slice.ensures in
    let front = c.shown-front.ensures ∙ ap slice_of (front_shown runs at l order a.tuples.tuples together c.index-slice.result.now shown time behind) in
    let back = c.shown-back.ensures ∙ ap slice_of (back_shown runs at l order a.tuples.tuples together c.index-slice.result.now shown time before) in
    let some = some_tuples run time before behind in
    let whole = both_parts runs at l order time in
    record {
      parted = kept_again (split_at at time runs) c.split_bounds.new.bounds.items a.tuples.tuples
          (split_hold runs at time l whole c.self.invariant.parted.hold (some_front run time some before) (some_back run time some behind))
          (c.split_bounds.ensures.items ∙ split_shown runs at time l a.bounds.items _ _ c.self.invariant.parted.shown front back)
          (sym together ∙ split_tuples runs at time l whole);
      counted = c.self.invariant.counted;
    }

pub returns-clause-slices : goal.returns-clause-slices
returns-clause-slices c =
    let a = c.self.inside in
    let runs = parted_by a.bounds.items a.tuples.tuples in
    let at = c.args.at in
    let time = c.args.time in
    let run = get_or runs at [] in
    let l : at < length runs = rw (← c.self.view_is) at c.requires.within in
    let before : first_time run < time = rw (← c.self.view_is) at c.requires.before in
    let behind : time ≤ last_time run = rw (← c.self.view_is) at c.requires.behind in
    let order = c.self.invariant.parted.hold.ordered in
    let together = c.self.invariant.parted.together in
    let shown : c.index-slice.result.now ≡ slice_of run = shown_at runs a.bounds.items at c.index-slice.result.now c.self.invariant.parted.shown l c.index-slice.ensures in
    let front = c.shown-front.ensures ∙ ap slice_of (front_shown runs at l order a.tuples.tuples together c.index-slice.result.now shown time behind) in
    let back = c.shown-back.ensures ∙ ap slice_of (back_shown runs at l order a.tuples.tuples together c.index-slice.result.now shown time before) in
    rw (← c.self.view_is)
    (parted_again (split_at at time runs) c.split_bounds.new.bounds.items a.tuples.tuples
    (c.split_bounds.ensures.items ∙ split_shown runs at time l a.bounds.items _ _ c.self.invariant.parted.shown front back)
    (sym together ∙ split_tuples runs at time l (both_parts runs at l order time)))

pub returns-clause-holds : goal.returns-clause-holds
returns-clause-holds c = let kept = invariant_of-self c in kept.parted.hold
