-- The row has at most 256 pairs.
use Rattle.partials.proofs.RowFacts.{reach_over}
use Rattle.partials.proofs.partials.Partials.vouch.Goals as goal

pub returns : goal.returns
returns g c =
    let s = c.self.inside in
    rw (← c.self.view_is) (reach_over g.T.AggTree.bounded (g.T.AggTree.table s.tree).pairs s.near.pairs (g.T.AggTree.reach s.tree) c.len-count.ensures.bounded c.self.invariant.few)
