-- The first pair of the row has the least key there, which lies behind those in the tree.
use Rattle.std.proofs.Common.{◌∙◌, ◌≤◌, ◌+◌, ◌++◌, ◌∷◌, [], ap, sym, subst, length}
use Rattle.partials.specs.Apart.{AreBelow, AreFrom}
use Rattle.partials.proofs.RowFacts.{absent_behind, edge_to_first, last_inserted, moved, moved_below, moved_from, moved_length}
use Rattle.partials.proofs.partials.bring_in.Goals as goal

pub insert-requires : goal.insert-requires
insert-requires g c =
    let near = c.args.near.now.pairs in
    record {
      absent = absent_behind c.args.edge c.in-Some.low (g.T.AggTree.table c.args.tree.now).pairs (edge_to_first c.args.edge c.in-Some.low near (sym c.in-Some.ensures.least) c.requires.from) c.requires.below;
      room = c.requires.room;
    }

pub returns-clause-pairs : goal.returns-clause-pairs
returns-clause-pairs g c =
    let xs = (g.T.AggTree.table c.args.tree.now).pairs in
    let near = c.args.near.now.pairs in
    let low = c.in-Some.low in
    let partial = c.take_near-partial.result in
    let edge : c.args.edge ≤ low = edge_to_first c.args.edge low near (sym c.in-Some.ensures.least) c.requires.from in
    ap (λ l. l ++ c.take_near-partial.new.near.pairs) (c.insert.ensures.inserts.inserted ∙ last_inserted c.args.edge low partial xs edge c.requires.below)
    ∙ ap (λ l. (xs ++ (low, partial) ∷ []) ++ l) c.take_near-partial.ensures.pairs
    ∙ moved low partial xs near c.in-Some.ensures.rising (sym c.in-Some.ensures.least) c.take_near-partial.ensures.value

pub returns-clause-below : goal.returns-clause-below
returns-clause-below g c =
    let xs = (g.T.AggTree.table c.args.tree.now).pairs in
    let low = c.in-Some.low in
    let partial = c.take_near-partial.result in
    let edge : c.args.edge ≤ low = edge_to_first c.args.edge low c.args.near.now.pairs (sym c.in-Some.ensures.least) c.requires.from in
    subst (AreBelow (low + 1)) (sym (c.insert.ensures.inserts.inserted ∙ last_inserted c.args.edge low partial xs edge c.requires.below)) (moved_below c.args.edge low partial xs edge c.requires.below)

pub returns-clause-from : goal.returns-clause-from
returns-clause-from g c =
    let low = c.in-Some.low in
    subst (AreFrom (low + 1)) (sym c.take_near-partial.ensures.pairs) (moved_from low c.args.near.now.pairs c.in-Some.ensures.rising (sym c.in-Some.ensures.least))

pub returns-clause-row : goal.returns-clause-row
returns-clause-row g c =
    ap (λ l. length l + 1) c.take_near-partial.ensures.pairs
    ∙ moved_length c.in-Some.low c.args.near.now.pairs c.in-Some.ensures.rising (sym c.in-Some.ensures.least)
