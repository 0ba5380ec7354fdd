-- A new lane knows an empty store, and misses none of it.
use Rattle.key_parts.specs.Calls.{window_kind}
use Rattle.time_parts.proofs.lane_part.LanePartKeyPart.fresh.Goals as goal

pub returns-clause-stands : goal.returns-clause-stands
returns-clause-stands g c = λ water s empty. record {
  timed = c.requires.kind.timed;
  shown = c.requires.kind.shown;
  knows = c.new.ensures.knows (window_kind c.args.defs.now c.args.window) water s empty;
}

pub returns-clause-ahead : goal.returns-clause-ahead
returns-clause-ahead g c = λ water s empty. c.new.ensures.knows_all (window_kind c.args.defs.now c.args.window) water s empty
