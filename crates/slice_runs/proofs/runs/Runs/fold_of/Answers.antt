-- The slice is the tuples from its first time up to its last.
use Rattle.std.proofs.Common.{◌≡◌, ◌∙◌, ◌<◌, ◌≤◌, [], ap, arith, length, get_or}
use Rattle.stream_base.specs.declared.limits.TheConstants.{TIME_MAX}
use Rattle.stream_base.specs.Model.Windows.{last_time}
use Rattle.aggregates.specs.Bundled.{bundle_of}
use Rattle.slice_lists.specs.declared.slice.Slice.{Slice}
use Rattle.slice_lists.specs.Parted.{parted_by}
use Rattle.slice_lists.specs.Slices.{slice_of, values_of}
use Rattle.slice_lists.proofs.SliceEdits.{shown_at}
use Rattle.slice_lists.proofs.SliceFacts.{all_end}
use Rattle.slice_runs.proofs.Parts.{whole_shown}
use Rattle.slice_runs.proofs.runs.Runs.fold_of.Goals as goal

pub overflow_add-slice : goal.overflow_add-slice
overflow_add-slice g c =
    let a = c.self.inside in
    let runs = parted_by a.bounds.items a.tuples.tuples in
    let l : c.args.at < length runs = rw (← c.self.view_is) at c.requires in
    let shown : c.index-slice.result.now ≡ slice_of (get_or runs c.args.at []) = shown_at runs a.bounds.items c.args.at c.index-slice.result.now c.self.invariant.parted.shown l c.index-slice.ensures in
    let end : last_time (get_or runs c.args.at []) ≤ TIME_MAX = all_end runs c.self.invariant.parted.hold c.args.at [] l in
    omega (arith, ap (λ (s : Slice). s.high) shown, end)

pub returns-clause-value : goal.returns-clause-value
returns-clause-value g c =
    let a = c.self.inside in
    let runs = parted_by a.bounds.items a.tuples.tuples in
    let l : c.args.at < length runs = rw (← c.self.view_is) at c.requires in
    let shown : c.index-slice.result.now ≡ slice_of (get_or runs c.args.at []) = shown_at runs a.bounds.items c.args.at c.index-slice.result.now c.self.invariant.parted.shown l c.index-slice.ensures in
    rw (← c.self.view_is)
    (c.fold.ensures.value
    ∙ ap (λ ts. bundle_of (values_of ts)) (whole_shown runs c.args.at l c.self.invariant.parted.hold.ordered a.tuples.tuples c.self.invariant.parted.together c.index-slice.result.now shown))

pub returns-clause-cost : goal.returns-clause-cost
returns-clause-cost g c =
    let a = c.self.inside in
    let runs = parted_by a.bounds.items a.tuples.tuples in
    let l : c.args.at < length runs = rw (← c.self.view_is) at c.requires in
    let shown : c.index-slice.result.now ≡ slice_of (get_or runs c.args.at []) = shown_at runs a.bounds.items c.args.at c.index-slice.result.now c.self.invariant.parted.shown l c.index-slice.ensures in
    let own = whole_shown runs c.args.at l c.self.invariant.parted.hold.ordered a.tuples.tuples c.self.invariant.parted.together c.index-slice.result.now shown in
    rw (← c.self.view_is) (omega (arith, c.fold.ensures.cost, ap length own))
