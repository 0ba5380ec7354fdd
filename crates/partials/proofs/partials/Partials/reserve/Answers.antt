-- The row still has at most 256 pairs, and the tree is known to be bounded whether or not it was asked for room.
use Rattle.std.proofs.Common.{◌≡◌, ◌∙◌, ◌≤◌, ap, length, subst, sym}
use Rattle.partials.proofs.RowFacts.{reach_over}
use Rattle.partials.proofs.partials.Partials.reserve.Goals as goal
use Rattle.partials.proofs.partials.Partials.reserve.Goals.{else-needs_tree, then-needs_tree+in_ok-reserve}

pub returns-in_err-reserve-clause-bounded : goal.returns-in_err-reserve-clause-bounded
returns-in_err-reserve-clause-bounded g c =
    reach_over g.T.AggTree.bounded (g.T.AggTree.table c.reserve.new.self).pairs c.self.inside.near.pairs (g.T.AggTree.reach c.reserve.new.self) c.reserve.ensures.bounded c.self.invariant.few

pub returns-clause-bounded : goal.returns-clause-bounded
returns-clause-bounded g c =
    let t = g.T.AggTree in
    let s = c.if-needs_tree.self-inside in
    let bounded : t.bounded (t.reach s.tree) (length (t.table s.tree).pairs) =
    elim c.if-needs_tree.branch [
      | then-needs_tree+in_ok-reserve w ↦ subst (λ s. t.bounded (t.reach s.tree) (length (t.table s.tree).pairs)) (sym w.self-inside-is) w.reserve.ensures.bounded
      | else-needs_tree w ↦ subst (λ s. t.bounded (t.reach s.tree) (length (t.table s.tree).pairs)) (sym w.self-inside-is) (c.needs_tree.ensures.bounded w.if-needs_tree.false)
    ] in
    let near : s.near.pairs ≡ c.self.inside.near.pairs =
    elim c.if-needs_tree.branch [
      | then-needs_tree+in_ok-reserve w ↦ ap (λ s. s.near.pairs) w.self-inside-is
      | else-needs_tree w ↦ ap (λ s. s.near.pairs) w.self-inside-is
    ] in
    reach_over t.bounded (t.table s.tree).pairs c.reserve-2.new.self.pairs (t.reach s.tree) bounded (subst (λ l. length l ≤ 256) (sym (c.reserve-2.ensures.kept ∙ near)) c.self.invariant.few)
