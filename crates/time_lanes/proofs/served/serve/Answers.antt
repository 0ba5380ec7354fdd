-- Slices part at the starts and ends of each window.
use Rattle.time_lanes.proofs.ServedFacts.{parted_at_edges}
use Rattle.time_lanes.proofs.served.serve.Goals as goal

pub returns-clause-parted : goal.returns-clause-parted
returns-clause-parted c = λ s over.
    parted_at_edges c.args.defs.now.windows c.args.window c.window_at-def.result s c.of-span.result.length c.of-span.result.slide c.window_at-def.ensures.kinds c.window_at-def.ensures.stands c.window_at-def.ensures.timed over.sliced c.of-span.ensures.length c.of-span.ensures.slide
