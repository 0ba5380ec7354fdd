use Rattle.model_laws.proofs.StandingRows.{standing_rows_exactly, standing_rows_in_order}
use Rattle.model_laws.proofs.standing.standing_rows_are_those_of_the_instances.Goals as goal

pub returns-clause-exactly : goal.returns-clause-exactly
returns-clause-exactly c = standing_rows_exactly

pub returns-clause-ordered : goal.returns-clause-ordered
returns-clause-ordered c = standing_rows_in_order
