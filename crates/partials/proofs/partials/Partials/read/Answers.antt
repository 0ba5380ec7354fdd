-- The pair with the key is in the tree where the key is below the edge, and else in the row.
use Rattle.std.proofs.Common.{◌≡◌, ◌∙◌, Some, arith, sym}
use Rattle.partials.proofs.RowFacts.{absent_before, absent_behind, value_inside, value_near}
use Rattle.partials.proofs.partials.Partials.read.Goals as goal

pub returns-then-low-self : goal.returns-then-low-self
returns-then-low-self g c =
    let s = c.self.inside in
    rw (← c.self.view_is)
    (record {
      value = λ b v e. c.read_in.ensures.value b v (sym (value_inside c.args.low (g.T.AggTree.table s.tree).pairs s.near.pairs (absent_before s.edge c.args.low s.near.pairs c.if-low-self.true c.self.invariant.from)) ∙ e);
      cost = c.read_in.ensures.cost;
    })

pub returns-else-low-self : goal.returns-else-low-self
returns-else-low-self g c =
    let s = c.self.inside in
    let xs = (g.T.AggTree.table s.tree).pairs in
    rw (← c.self.view_is)
    (record {
      value = λ b v e. let there : c.get.result ≡ Some b = c.get.ensures ∙ sym (value_near c.args.low xs s.near.pairs (absent_behind s.edge c.args.low xs c.if-low-self.false c.self.invariant.below)) ∙ e in let given = c.unwrap_or.ensures in cc;
      cost = omega arith;
    })
