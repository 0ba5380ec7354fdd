-- The tuple's partial stands between the partials of the slices around it.
use Rattle.std.proofs.Common.{◌∙◌, ap, sym, map, refl}
use Rattle.agg_laws.specs.Pairs.{has_key, inserted}
use Rattle.agg_store.specs.Stored.{partial_of}
use Rattle.slice_store.proofs.PartialFacts.{alone_absent, alone_there}
use Rattle.slice_store.proofs.entering.add.Goals as goal

pub insert-requires-clause-absent : goal.insert-requires-clause-absent
insert-requires-clause-absent g c =
    ap (has_key c.args.x.time) c.requires.stand ∙ alone_absent g.M.Partial.of_values c.args.runs.now.slices c.args.at c.args.at c.args.x c.requires.holds.ordered c.requires.can.ordered refl

pub returns-clause-follow : goal.returns-clause-follow
returns-clause-follow g c =
    record {
      slices = c.enter.ensures.slices;
      holds = c.enter.ensures.holds;
      stand = c.insert.ensures.inserted
          ∙ ap (inserted c.args.x.time c.lifted.result) c.requires.stand
          ∙ alone_there g.M.Partial.of_values c.args.runs.now.slices c.args.at c.args.at c.args.x c.requires.holds.ordered c.requires.can.ordered refl c.lifted.result c.lifted.ensures
          ∙ ap (map (partial_of g.M.Partial.of_values)) (sym c.enter.ensures.slices);
      room = c.enter.ensures.spare;
      spare = c.insert.ensures.spare;
      reach = c.insert.ensures.reach;
    }
