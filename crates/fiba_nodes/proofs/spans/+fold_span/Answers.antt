-- Where both bounds lie in one child it goes on there, else in the two children at the ends.
use Rattle.std.proofs.Common.{◌≡◌, ◌<◌, ◌-◌, suc, length, sym, ◌∙◌, arith}
use Rattle.fiba_nodes.specs.Rows.{listed}
use Rattle.fiba_nodes.specs.Trees.{pairs_at, plain}
use Rattle.fiba_nodes.proofs.Opened.{combined, is_there, no_pairs, some_pairs}
use Rattle.fiba_nodes.proofs.Below.{node_is}
use Rattle.fiba_nodes.proofs.Strings.{folded_all, folded_in_one, folded_in_two, folded_none, left_later, left_true, not_both, off_left, off_right, order_end, order_start, places_ordered, right_true, right_within, span_kid, span_kids, way_in_one, way_in_two}
use Rattle.fiba_nodes.proofs.spans.+fold_span.Goals as goal

pub returns-then-height-eq0-clause-folded : goal.returns-then-height-eq0-clause-folded
returns-then-height-eq0-clause-folded g t c =
    folded_none g.M.Monoid.op c.args.low c.args.high (pairs_at (plain c.args.nodes.now) c.args.height c.args.at) c.args.sum c.args.steps.now (no_pairs (plain c.args.nodes.now) c.args.height c.args.at c.if-height-eq0.true)

pub peek-node-requires : goal.peek-node-requires
peek-node-requires g t c =
    let m = g.M.Monoid in
    is_there m.is_value m.empty m.op c.args.nodes.now c.args.height c.args.place.left c.args.place.right c.args.at (omega arith) c.requires.tree

pub returns-then-spans_all-clause-folded : goal.returns-then-spans_all-clause-folded
returns-then-spans_all-clause-folded g t c =
    let m = g.M.Monoid in
    let all = c.if-spans_all.true in
    let some = some_pairs m.is_value m.empty m.op (plain c.args.nodes.now) c.args.height c.args.place.left c.args.place.right c.args.at (omega arith) c.requires.tree in
    folded_all m.op c.args.low c.args.high (pairs_at (plain c.args.nodes.now) c.args.height c.args.at) c.args.sum c.combine.result c.args.steps.now c.combine.new.steps (sym c.spans_all.ensures ∙ all) (c.combine.ensures.value ∙ combined g.met.M.Monoid.laws c.args.nodes.now c.args.height c.args.at c.peek-node.result.now c.args.sum c.args.place.left c.args.place.right (omega arith) c.peek-node.ensures.found c.vouch.ensures (off_left c.args.low c.args.high c.args.place.left (sym c.spans_all.ensures ∙ all) c.requires.left) (off_right c.args.low c.args.high c.args.place.right (sym c.spans_all.ensures ∙ all) c.requires.right) c.requires.tree) (omega (arith, c.combine.ensures.counted)) some

pub fold_span-requires : goal.fold_span-requires
fold_span-requires g t c =
    let m = g.M.Monoid in
    let s = plain c.args.nodes.now in
    let slots = listed c.slots.result in
    let last = c.last.result in
    let read = node_is c.args.nodes.now c.args.at c.peek-node.result.now slots last c.peek-node.ensures.found c.slots.ensures.slots c.last.ensures in
    let lower : c.args.height ≡ suc (c.args.height - 1) = omega arith in
    let kid = span_kid m.is_value m.empty m.op s c.args.at c.args.height (c.args.height - 1) c.args.place.left c.args.place.right slots last c.peek-node.result.now.agg c.peek-node.result.now.leaf lower c.requires.tree read c.place-i.result in
    λ κs w. (omega arith, (w.0, (w.1, (rw (c.kid-kid.ensures, c.place-first.ensures.left, c.place-first.ensures.right) kid, (λ e. c.requires.left (left_true c.args.place.left slots c.place-i.result (sym c.place-first.ensures.left ∙ e)), (λ e. c.requires.right (right_true c.args.place.right slots c.place-i.result (sym c.place-first.ensures.right ∙ e)), c.requires.order))))))

pub returns-then-i-j-clause-folded : goal.returns-then-i-j-clause-folded
returns-then-i-j-clause-folded g t c =
    let m = g.M.Monoid in
    let s = plain c.args.nodes.now in
    let slots = listed c.slots.result in
    let last = c.last.result in
    let read = node_is c.args.nodes.now c.args.at c.peek-node.result.now slots last c.peek-node.ensures.found c.slots.ensures.slots c.last.ensures in
    let lower : c.args.height ≡ suc (c.args.height - 1) = omega arith in
    let folded = rw c.kid-kid.ensures at c.fold_span.ensures.folded in
    folded_in_one m.is_value m.empty m.op s c.args.at c.args.height (c.args.height - 1) c.args.place.left c.args.place.right slots last c.peek-node.result.now.agg c.peek-node.result.now.leaf lower c.requires.tree read c.place-i.result c.args.low c.args.high c.args.sum c.fold_span.result c.args.steps.now c.fold_span.new.steps c.place-i.ensures (rw c.if-i-j.true c.place-j.ensures) folded

pub returns-then-i-j-clause-work : goal.returns-then-i-j-clause-work
returns-then-i-j-clause-work g t c =
    let lower : c.args.height ≡ suc (c.args.height - 1) = omega arith in
    let w = way_in_one c.args.low c.args.high c.args.height (c.args.height - 1) lower in
    record {
      rises = omega arith;
      cost = omega (arith, w, c.fold_span.ensures.work.cost);
    }

pub fold_span-sum-requires : goal.fold_span-sum-requires
fold_span-sum-requires g t c =
    let m = g.M.Monoid in
    let s = plain c.args.nodes.now in
    let slots = listed c.slots.result in
    let last = c.last.result in
    let read = node_is c.args.nodes.now c.args.at c.peek-node.result.now slots last c.peek-node.ensures.found c.slots.ensures.slots c.last.ensures in
    let lower : c.args.height ≡ suc (c.args.height - 1) = omega arith in
    let kid = span_kid m.is_value m.empty m.op s c.args.at c.args.height (c.args.height - 1) c.args.place.left c.args.place.right slots last c.peek-node.result.now.agg c.peek-node.result.now.leaf lower c.requires.tree read c.place-i.result in
    let le = places_ordered c.args.low c.args.high slots c.place-i.result c.place-j.result c.requires.order c.place-i.ensures c.place-j.ensures in
    let within = c.place-j.ensures.within in
    let lt : c.place-i.result < length slots = omega arith in
    λ κs w. (omega arith, (w.0, (w.1, (rw (c.kid-kid.ensures, c.place-first.ensures.left, c.place-first.ensures.right) kid, (λ e. c.requires.left (left_true c.args.place.left slots c.place-i.result (sym c.place-first.ensures.left ∙ e)), (λ e. not_both (right_within c.args.place.right slots c.place-i.result lt) (sym c.place-first.ensures.right ∙ e), order_end c.args.low))))))

pub fold_between-sum-requires-clause-kids : goal.fold_between-sum-requires-clause-kids
fold_between-sum-requires-clause-kids g t c =
    let m = g.M.Monoid in
    let s = plain c.args.nodes.now in
    let slots = listed c.slots.result in
    let last = c.last.result in
    let read = node_is c.args.nodes.now c.args.at c.peek-node.result.now slots last c.peek-node.ensures.found c.slots.ensures.slots c.last.ensures in
    let lower : c.args.height ≡ suc (c.args.height - 1) = omega arith in
    span_kids m.is_value m.empty m.op s c.args.at c.args.height (c.args.height - 1) c.args.place.left c.args.place.right slots last c.peek-node.result.now.agg c.peek-node.result.now.leaf lower c.requires.tree read c.place-i.result

pub fold_between-sum-requires-clause-order : goal.fold_between-sum-requires-clause-order
fold_between-sum-requires-clause-order g t c =
    let slots = listed c.slots.result in
    let le = places_ordered c.args.low c.args.high slots c.place-i.result c.place-j.result c.requires.order c.place-i.ensures c.place-j.ensures in
    omega arith

pub fold_span-requires-2 : goal.fold_span-requires-2
fold_span-requires-2 g t c =
    let m = g.M.Monoid in
    let s = plain c.args.nodes.now in
    let slots = listed c.slots.result in
    let last = c.last.result in
    let read = node_is c.args.nodes.now c.args.at c.peek-node.result.now slots last c.peek-node.ensures.found c.slots.ensures.slots c.last.ensures in
    let lower : c.args.height ≡ suc (c.args.height - 1) = omega arith in
    let kid = span_kid m.is_value m.empty m.op s c.args.at c.args.height (c.args.height - 1) c.args.place.left c.args.place.right slots last c.peek-node.result.now.agg c.peek-node.result.now.leaf lower c.requires.tree read c.place-j.result in
    let le = places_ordered c.args.low c.args.high slots c.place-i.result c.place-j.result c.requires.order c.place-i.ensures c.place-j.ensures in
    let within = c.place-j.ensures.within in
    λ κs w. (omega arith, (w.0, (w.1, (rw (c.kid-kid-2.ensures, c.place-last.ensures.left, c.place-last.ensures.right) kid, (λ e. not_both (left_later c.args.place.left slots c.place-j.result (omega arith) (omega arith)) (sym c.place-last.ensures.left ∙ e), (λ e. c.requires.right (right_true c.args.place.right slots c.place-j.result (sym c.place-last.ensures.right ∙ e)), order_start c.args.high))))))

pub returns-clause-folded : goal.returns-clause-folded
returns-clause-folded g t c =
    let m = g.M.Monoid in
    let s = plain c.args.nodes.now in
    let slots = listed c.slots.result in
    let last = c.last.result in
    let read = node_is c.args.nodes.now c.args.at c.peek-node.result.now slots last c.peek-node.ensures.found c.slots.ensures.slots c.last.ensures in
    let lower : c.args.height ≡ suc (c.args.height - 1) = omega arith in
    let le = places_ordered c.args.low c.args.high slots c.place-i.result c.place-j.result c.requires.order c.place-i.ensures c.place-j.ensures in
    let first = rw c.kid-kid.ensures at c.fold_span-sum.ensures.folded in
    let second = rw c.kid-kid-2.ensures at c.fold_span-2.ensures.folded in
    folded_in_two m.is_value m.empty m.op s c.args.at c.args.height (c.args.height - 1) c.args.place.left c.args.place.right slots last c.peek-node.result.now.agg c.peek-node.result.now.leaf lower c.requires.tree read c.place-i.result c.place-j.result c.args.low c.args.high c.args.sum c.fold_span-sum.result c.fold_between-sum.result c.fold_span-2.result c.args.steps.now c.fold_span-sum.new.steps c.fold_between-sum.new.steps c.fold_span-2.new.steps (omega arith) c.place-i.ensures c.place-j.ensures first c.fold_between-sum.ensures.strung second

pub returns-clause-work : goal.returns-clause-work
returns-clause-work g t c =
    let lower : c.args.height ≡ suc (c.args.height - 1) = omega arith in
    let w = way_in_two c.args.low c.args.high c.args.height (c.args.height - 1) lower (sym c.spans_all.ensures ∙ c.if-spans_all.false) in
    record {
      rises = omega arith;
      cost = omega (arith, w, c.fold_span-sum.ensures.work.cost, c.fold_between-sum.ensures.work.cost, c.fold_span-2.ensures.work.cost);
    }
