-- The tuple stands in order among all, and the slices that it enters are one.
use Rattle.std.proofs.Common.{◌≡◌, ◌∙◌, ap, arith, sym, length, map}
use Rattle.stream_base.specs.Model.Journal.{put_in_order}
use Rattle.slice_lists.specs.Runs.{AreInOrder}
use Rattle.slice_lists.specs.Parted.{parted_by}
use Rattle.slice_lists.specs.Slices.{entered_at, joined, slice_of}
use Rattle.slice_lists.proofs.SliceEdits.{entered_all, entered_hold, entered_number, entered_tuples, kept_again, parted_again, put_length}
use Rattle.slice_runs.proofs.runs.Runs.enter.Goals as goal

pub enter_bounds-requires-clause-number : goal.enter_bounds-requires-clause-number
enter_bounds-requires-clause-number c =
    let a = c.self.inside in
    let runs = parted_by a.bounds.items a.tuples.tuples in
    let number = entered_number runs a.bounds.items c.args.from c.args.to c.args.x c.requires.order c.requires.few c.self.invariant.parted.hold.ordered c.self.invariant.parted.shown in
    let n : length (joined runs) ≡ length a.tuples.tuples = ap length c.self.invariant.parted.together in
    let room = rw (← c.self.view_is) at c.requires.room in
    omega (arith, number, n, c.self.invariant.counted, room)

pub invariant_of-self : goal.invariant_of-self
invariant_of-self c =
    let a = c.self.inside in
    let runs = parted_by a.bounds.items a.tuples.tuples in
    let ordered : AreInOrder (entered_at c.args.from c.args.to c.args.x runs) = rw (← c.self.view_is) at c.requires.ordered in
    let slices : c.enter_bounds.new.bounds.items ≡ map slice_of (entered_at c.args.from c.args.to c.args.x runs) =
    c.enter_bounds.ensures.items ∙ entered_all runs a.bounds.items c.args.from c.args.to c.args.x c.requires.order c.requires.few c.self.invariant.parted.hold.ordered c.self.invariant.parted.shown in
    let room = rw (← c.self.view_is) at c.requires.room in
    record {
      parted = kept_again (entered_at c.args.from c.args.to c.args.x runs) c.enter_bounds.new.bounds.items c.put.new.self.tuples
          (entered_hold runs c.args.from c.args.to c.args.x c.requires.order c.self.invariant.parted.hold ordered c.requires.time c.requires.value
          (omega (arith, ap length c.self.invariant.parted.together, c.self.invariant.counted, room)))
          slices
          (c.put.ensures.tuples ∙ ap (λ l. put_in_order l c.args.x) (sym c.self.invariant.parted.together) ∙ entered_tuples runs c.args.from c.args.to c.args.x c.requires.order ordered);
      counted = omega (arith, ap length c.put.ensures.tuples, put_length a.tuples.tuples c.args.x, c.self.invariant.counted);
    }

pub returns-clause-slices : goal.returns-clause-slices
returns-clause-slices c =
    let a = c.self.inside in
    let runs = parted_by a.bounds.items a.tuples.tuples in
    let ordered : AreInOrder (entered_at c.args.from c.args.to c.args.x runs) = rw (← c.self.view_is) at c.requires.ordered in
    let slices : c.enter_bounds.new.bounds.items ≡ map slice_of (entered_at c.args.from c.args.to c.args.x runs) =
    c.enter_bounds.ensures.items ∙ entered_all runs a.bounds.items c.args.from c.args.to c.args.x c.requires.order c.requires.few c.self.invariant.parted.hold.ordered c.self.invariant.parted.shown in
    rw (← c.self.view_is)
    (parted_again (entered_at c.args.from c.args.to c.args.x runs) c.enter_bounds.new.bounds.items c.put.new.self.tuples slices
    (c.put.ensures.tuples ∙ ap (λ l. put_in_order l c.args.x) (sym c.self.invariant.parted.together) ∙ entered_tuples runs c.args.from c.args.to c.args.x c.requires.order ordered))

pub returns-clause-holds : goal.returns-clause-holds
returns-clause-holds c = let kept = invariant_of-self c in kept.parted.hold
