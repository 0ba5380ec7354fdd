-- The tuples and the slices from the time on are left.
use Rattle.std.proofs.Common.{◌≡◌, ◌∙◌, length, drop, ap, arith, rules, sym}
use Rattle.std.specs.Prelude.{nat_le}
use Rattle.std.specs.List.{filter}
use Rattle.std.proofs.lemmas.Fn.{filter_same}
use Rattle.stream_base.specs.declared.kept.Kept.{Kept}
use Rattle.slice_lists.specs.declared.slice.Slice.{Slice}
use Rattle.slice_lists.specs.Parted.{parted_by}
use Rattle.slice_lists.proofs.LeaveFacts.{bounds_left, left_hold, tuples_left}
use Rattle.slice_lists.proofs.SliceEdits.{kept_again, parted_again}
use Rattle.slice_runs.proofs.Parts.{fewer_kept}
use Rattle.slice_runs.proofs.runs.Runs.drop_first.Goals as goal

pub invariant_of-self : goal.invariant_of-self
invariant_of-self c =
    let a = c.self.inside in
    let runs = parted_by a.bounds.items a.tuples.tuples in
    let time = c.args.time in
    let place = rw (← c.self.view_is) at c.requires.place in
    let aligned = rw (← c.self.view_is) at c.requires.aligned in
    let order = c.self.invariant.parted.hold.ordered in
    let bounds : c.retain.new.self.items ≡ filter (λ (s : Slice). nat_le time s.low) a.bounds.items = filter_same _ (λ (s : Slice). nat_le time s.low) _ (λ x b f' k. search rules) _ _ c.retain.ensures.filtered in
    record {
      parted = kept_again (drop c.args.count runs) c.retain.new.self.items c.drop_before.new.self.tuples
          (left_hold runs time c.args.count place order aligned c.self.invariant.parted.hold)
          (bounds ∙ bounds_left runs time c.args.count place order aligned a.bounds.items c.self.invariant.parted.shown)
          (c.drop_before.ensures.tuples ∙ ap (filter (λ (x : Kept). nat_le time x.time)) (sym c.self.invariant.parted.together) ∙ tuples_left runs time c.args.count place order aligned);
      counted = omega (arith, ap length c.drop_before.ensures.tuples, fewer_kept (λ (x : Kept). nat_le time x.time) a.tuples.tuples, c.self.invariant.counted);
    }

pub returns-clause-slices : goal.returns-clause-slices
returns-clause-slices c =
    let a = c.self.inside in
    let runs = parted_by a.bounds.items a.tuples.tuples in
    let time = c.args.time in
    let place = rw (← c.self.view_is) at c.requires.place in
    let aligned = rw (← c.self.view_is) at c.requires.aligned in
    let order = c.self.invariant.parted.hold.ordered in
    let bounds : c.retain.new.self.items ≡ filter (λ (s : Slice). nat_le time s.low) a.bounds.items = filter_same _ (λ (s : Slice). nat_le time s.low) _ (λ x b f' k. search rules) _ _ c.retain.ensures.filtered in
    rw (← c.self.view_is)
    (parted_again (drop c.args.count runs) c.retain.new.self.items c.drop_before.new.self.tuples
    (bounds ∙ bounds_left runs time c.args.count place order aligned a.bounds.items c.self.invariant.parted.shown)
    (c.drop_before.ensures.tuples ∙ ap (filter (λ (x : Kept). nat_le time x.time)) (sym c.self.invariant.parted.together) ∙ tuples_left runs time c.args.count place order aligned))

pub returns-clause-holds : goal.returns-clause-holds
returns-clause-holds c = let kept = invariant_of-self c in kept.parted.hold
