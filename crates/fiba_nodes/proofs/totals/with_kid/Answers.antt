-- A child on an edge or below a leaf adds nothing; off the edges its aggregate is that of its pairs.
use Rattle.std.proofs.Common.{refl, ◌∙◌, arith}
use Rattle.fiba_nodes.specs.Trees.{plain}
use Rattle.fiba_nodes.proofs.Opened.{is_there, combined, no_pairs, some_pairs}
use Rattle.fiba_nodes.proofs.totals.with_kid.Goals as goal
use Rattle.fiba_nodes.proofs.totals.with_kid.Goals.{then-place-via-then-place, then-place-via-else-place+then-place-2, then-place-via-else-place+else-place-2+then-height-eq0}

pub returns-then-place-clause-value : goal.returns-then-place-clause-value
returns-then-place-clause-value g c =
    elim c.then-place.branch [
      | then-place-via-then-place w ↦ rw w.if-place.true refl
      | then-place-via-else-place+then-place-2 w ↦ rw (w.if-place.false, w.if-place-2.true) refl
      | then-place-via-else-place+else-place-2+then-height-eq0 w ↦ rw (w.if-place.false, w.if-place-2.false, no_pairs (plain c.args.nodes.now) c.args.height c.args.kid w.if-height-eq0.true) refl
    ]

pub peek-requires : goal.peek-requires
peek-requires g c =
    is_there g.M.Monoid.is_value g.M.Monoid.empty g.M.Monoid.op c.args.nodes.now c.args.height c.args.place.left c.args.place.right c.args.kid (omega arith) c.requires

pub returns-clause-value : goal.returns-clause-value
returns-clause-value g c =
    rw (c.if-place.false, c.if-place-2.false) (c.combine.ensures.value ∙ combined g.met.M.Monoid.laws c.args.nodes.now c.args.height c.args.kid c.peek.result.now c.args.sum c.args.place.left c.args.place.right (omega arith) c.peek.ensures.found c.vouch.ensures c.if-place.false c.if-place-2.false c.requires)

pub returns-clause-work : goal.returns-clause-work
returns-clause-work g c =
    let m = g.M.Monoid in
    let some = some_pairs m.is_value m.empty m.op (plain c.args.nodes.now) c.args.height c.args.place.left c.args.place.right c.args.kid (omega arith) c.requires in
    record {
      cost = omega (arith, c.combine.ensures.counted);
      one_each = rw (c.if-place.false, c.if-place-2.false) (omega (arith, some, c.combine.ensures.counted));
    }
