use Rattle.held_laws.proofs.PurgeFacts.{parts_where_settled}
use Rattle.held_laws.proofs.purging.slices_part_where_tuples_are_settled.Goals as goal

pub returns : goal.returns
returns c = parts_where_settled
