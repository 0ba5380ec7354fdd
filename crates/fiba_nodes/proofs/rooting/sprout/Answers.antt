-- A leaf of one item, or nothing.
use Rattle.fiba_nodes.proofs.Planting.{sprout_loose, sprouted, sprouted_none}
use Rattle.fiba_nodes.proofs.rooting.sprout.Goals as goal

pub returns-in_default-clause-sprouted : goal.returns-in_default-clause-sprouted
returns-in_default-clause-sprouted g c =
    sprouted_none g.M.Monoid.is_value g.M.Monoid.empty g.M.Monoid.op c.args.nodes.now c.args.root c.args.place.left c.args.place.right c.args.item c.requires.can c.in_default.not-Some

pub create-requires-clause-loose : goal.create-requires-clause-loose
create-requires-clause-loose g c =
    sprout_loose g.M.Monoid.is_value g.M.Monoid.empty g.M.Monoid.op c.args.nodes.now c.args.root c.args.place.left c.args.place.right c.args.item c.in-Some.item c.requires.can c.in-Some.is

pub returns-clause-sprouted : goal.returns-clause-sprouted
returns-clause-sprouted g c =
    sprouted g.M.Monoid.is_value g.M.Monoid.empty g.M.Monoid.op c.args.nodes.now c.create.new.nodes c.args.root c.args.place.left c.args.place.right c.args.item c.in-Some.item c.create.result c.requires.can c.in-Some.is c.create.ensures.written c.create.ensures.moves c.create.ensures.spare
