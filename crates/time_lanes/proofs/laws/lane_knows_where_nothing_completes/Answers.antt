use Rattle.time_lanes.proofs.WaitFacts.{knows_on}
use Rattle.time_lanes.proofs.laws.lane_knows_where_nothing_completes.Goals as goal

pub returns : goal.returns
returns g c = knows_on
