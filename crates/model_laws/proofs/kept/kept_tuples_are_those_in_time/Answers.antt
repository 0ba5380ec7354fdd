use Rattle.model_laws.proofs.Accepted.{kept_exactly, kept_by_position}
use Rattle.stream_base.proofs.EventOrder.{kept_positions_below}
use Rattle.model_laws.proofs.kept.kept_tuples_are_those_in_time.Goals as goal

pub returns-clause-exactly : goal.returns-clause-exactly
returns-clause-exactly c = kept_exactly

pub returns-clause-positions : goal.returns-clause-positions
returns-clause-positions c = kept_positions_below

pub returns-clause-one_a_position : goal.returns-clause-one_a_position
returns-clause-one_a_position c = kept_by_position
