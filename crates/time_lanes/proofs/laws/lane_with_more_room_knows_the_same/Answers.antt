use Rattle.time_lanes.proofs.StayFacts.{knows_all_with_room, knows_with_room}
use Rattle.time_lanes.proofs.laws.lane_with_more_room_knows_the_same.Goals as goal

pub returns-clause-knows : goal.returns-clause-knows
returns-clause-knows g c = knows_with_room

pub returns-clause-knows_all : goal.returns-clause-knows_all
returns-clause-knows_all g c = knows_all_with_room
