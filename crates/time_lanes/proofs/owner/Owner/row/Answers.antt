-- The row of the interval shows what the interval shows.
use Rattle.time_lanes.proofs.owner.Owner.row.Goals as goal

pub returns : goal.returns
returns c = λ kept e i. record {
  window = c.args.self.now.window;
  key = c.args.self.now.key.now;
  low = c.args.low;
  high = c.args.high;
  number = (e i).number;
  shown = (e i).shown;
}
