-- Only the first child's tree changes; where that child has no item left, it settles.
use Rattle.std.proofs.Common.{◌≡◌, ◌-◌, true, false, suc, refl, arith, sym, ap, subst}
use Rattle.std.specs.Option.{option_map}
use Rattle.fiba_nodes.specs.declared.change.Change.TheVariants.{First}
use Rattle.fiba_nodes.specs.declared.slot.Slot.{Slot}
use Rattle.fiba_nodes.specs.Rows.{last_of, more_slots, plain_node, slots_of}
use Rattle.std.specs.Prelude.{slice_index}
use Rattle.fiba_nodes.specs.Changes.{CanApply}
use Rattle.fiba_nodes.proofs.Opened.{is_there}
use Rattle.fiba_nodes.proofs.Nesting.{few_slots}
use Rattle.fiba_nodes.proofs.Below.{kid_can_at, node_is}
use Rattle.fiba_finger.specs.Pulls.{IsDrained, IsHung, IsPulled, Pulls}
use Rattle.fiba_finger.proofs.Pulling.{pulled_up}
use Rattle.fiba_finger.proofs.draining.+pull.Goals as goal

pub pull_leaf-requires : goal.pull_leaf-requires
pull_leaf-requires g t c =
    let m = g.M.Monoid in
    subst (λ b. CanApply m.is_value m.empty m.op c.args.nodes.now c.args.at b true c.args.right First) c.if-below-eq0.true c.requires

pub returns-then-below-eq0-clause-pulls : goal.returns-then-below-eq0-clause-pulls
returns-then-below-eq0-clause-pulls g t c =
    let m = g.M.Monoid in
    subst (λ b. Pulls m.is_value m.empty m.op c.args.nodes.now c.pull_leaf.new.nodes c.args.at b c.args.right c.pull_leaf.result) (sym c.if-below-eq0.true) c.pull_leaf.ensures.pulls

pub peek-requires : goal.peek-requires
peek-requires g t c =
    let m = g.M.Monoid in
    is_there m.is_value m.empty m.op c.args.nodes.now (suc c.args.below) true c.args.right c.args.at (omega arith) c.requires.sound

pub pull-requires : goal.pull-requires
pull-requires g t c κs within =
    let m = g.M.Monoid in
    let old = c.args.nodes.now in
    let at = c.args.at in
    let lower : c.args.below ≡ suc (c.args.below - 1) = omega arith in
    let node = c.peek.result.now in
    let kid = c.first_kid-kid.result in
    let read = node_is old at node (slots_of node) (last_of node) c.peek.ensures.found refl refl in
    let can = kid_can_at m.is_value m.empty m.op old at c.args.below (c.args.below - 1) true c.args.right First (slots_of node) (last_of node) node.agg node.leaf lower c.requires read (few_slots node) 0 First (omega arith) tt in
    (omega arith, (within.0, (within.1, rw c.first_kid-kid.ensures can)))

pub returns-in_default-clause-pulls : goal.returns-in_default-clause-pulls
returns-in_default-clause-pulls g t c =
    let m = g.M.Monoid in
    let old = c.args.nodes.now in
    let at = c.args.at in
    let lower : c.args.below ≡ suc (c.args.below - 1) = omega arith in
    let node = c.peek.result.now in
    let kid = c.first_kid-kid.result in
    let can : CanApply m.is_value m.empty m.op old at (suc (c.args.below - 1)) true c.args.right First = subst (λ b. CanApply m.is_value m.empty m.op old at b true c.args.right First) lower c.requires in
    let first : Slot g.row.M.Denot = record { kid = slice_index node.kids 0; item = node.first } in
    let p = subst (λ k. IsPulled m.is_value m.empty m.op old c.pull.new.nodes k (c.args.below - 1) false) c.first_kid-kid.ensures c.in_default.ensures.pulls.whole in
    record { whole = subst (λ b. IsPulled m.is_value m.empty m.op old c.pull.new.nodes at b c.args.right) (sym lower) (pulled_up m.is_value m.empty m.op old c.pull.new.nodes at (c.args.below - 1) c.args.right first (more_slots node.second node.third node.kids) (last_of node) node.agg node.leaf can (ap (option_map plain_node) c.peek.ensures.found) p); drained = tt }

pub mend-requires : goal.mend-requires
mend-requires g t c =
    let m = g.M.Monoid in
    let hung : IsHung m.is_value m.empty m.op c.args.nodes.now c.pull.new.nodes c.args.at c.args.below c.args.right c.in-Some.last = record {
      inner = omega arith;
      can = c.requires;
      node = c.peek.result.now;
      found = c.peek.ensures.found;
      drained = subst (λ k. IsDrained m.is_value m.empty m.op c.args.nodes.now c.pull.new.nodes k (c.args.below - 1) false c.in-Some.last) c.first_kid-kid.ensures c.in-Some.ensures.pulls.drained;
    } in
    record { hung = (c.args.nodes.now, hung) }

pub returns-clause-pulls : goal.returns-clause-pulls
returns-clause-pulls g t c =
    let m = g.M.Monoid in
    let hung : IsHung m.is_value m.empty m.op c.args.nodes.now c.pull.new.nodes c.args.at c.args.below c.args.right c.in-Some.last = record {
      inner = omega arith;
      can = c.requires;
      node = c.peek.result.now;
      found = c.peek.ensures.found;
      drained = subst (λ k. IsDrained m.is_value m.empty m.op c.args.nodes.now c.pull.new.nodes k (c.args.below - 1) false c.in-Some.last) c.first_kid-kid.ensures c.in-Some.ensures.pulls.drained;
    } in
    c.mend.ensures.pulls c.args.nodes.now hung
