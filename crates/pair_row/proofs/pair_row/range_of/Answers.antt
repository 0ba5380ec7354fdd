-- The range is taken from the pairs below its end.
use Rattle.std.proofs.Common.{take, sym, ap, ◌∙◌, subst}
use Rattle.agg_laws.specs.Pairs.{AreRising, pairs_from}
use Rattle.pair_row.proofs.Places.{part_to_end, rising-pairs_below, within-nested}
use Rattle.pair_row.proofs.pair_row.range_of.Goals as goal

pub place_of-requires-2 : goal.place_of-requires-2
place_of-requires-2 g c =
    subst AreRising (sym c.place_of.ensures.before) (rising-pairs_below c.args.high c.args.pairs.now c.requires)

pub returns : goal.returns
returns g c =
    part_to_end (take c.place_of.result c.args.pairs.now) c.place_of-2.result ∙ c.place_of-2.ensures.behind ∙ ap (pairs_from c.args.low) c.place_of.ensures.before ∙ within-nested c.args.low c.args.high c.args.pairs.now
