-- What ends by the time lies in front, and what starts at the gap behind it or later lies behind.
use Rattle.window_spans.proofs.Apart.{highs_rise, lows_rise}
use Rattle.window_spans.proofs.Searches.{near_at}
use Rattle.window_spans.proofs.searching.near.Goals as goal

pub ended_by-from-requires : goal.ended_by-from-requires
ended_by-from-requires c = highs_rise c.args.spans.now c.requires.apart

pub begun_before-to-requires : goal.begun_before-to-requires
begun_before-to-requires c = lows_rise c.args.spans.now c.requires.apart

pub returns : goal.returns
returns c = record {
  places = near_at c.args.gap c.args.time c.requires.gap c.args.spans.now c.requires.apart c.ended_by-from.result c.begun_before-to.result c.ended_by-from.ensures c.begun_before-to.ensures;
}
