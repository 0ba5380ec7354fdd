use Rattle.std.proofs.Common.{arith}
use Rattle.time_lanes.proofs.StayFacts.{knows_all_stays, knows_stays, last_by}
use Rattle.time_lanes.proofs.laws.lane_knows_what_comes_at_the_watermark.Goals as goal

pub returns-clause-knows : goal.returns-clause-knows
returns-clause-knows g c = λ kind water time old new lane same l k. let r = k.reached in knows_stays kind water time old new lane same (omega (arith, r, last_by kind water, l)) k

pub returns-clause-knows_all : goal.returns-clause-knows_all
returns-clause-knows_all g c = λ kind water time old new lane same l k. knows_all_stays kind water time old new lane same (omega (arith, last_by kind water, l)) k
