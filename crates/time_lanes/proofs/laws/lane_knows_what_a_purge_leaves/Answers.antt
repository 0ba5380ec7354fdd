use Rattle.time_lanes.proofs.StayFacts.{knows_all_purged, knows_purged}
use Rattle.time_lanes.proofs.laws.lane_knows_what_a_purge_leaves.Goals as goal

pub returns-clause-knows : goal.returns-clause-knows
returns-clause-knows g c = knows_purged

pub returns-clause-knows_all : goal.returns-clause-knows_all
returns-clause-knows_all g c = knows_all_purged
