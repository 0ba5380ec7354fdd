use Rattle.time_lanes.proofs.StayFacts.{mark_stays, tuple_stays}
use Rattle.time_lanes.proofs.laws.what_comes_leaves_earlier_slices.Goals as goal

pub returns-clause-tuple : goal.returns-clause-tuple
returns-clause-tuple c = λ windows window def old new x kinds stands timed o sliced p. tuple_stays windows window def old kinds stands timed o sliced new x p

pub returns-clause-mark : goal.returns-clause-mark
returns-clause-mark c = λ windows window def old new time kinds stands timed o sliced is. mark_stays windows window def old kinds stands timed o sliced new time is
