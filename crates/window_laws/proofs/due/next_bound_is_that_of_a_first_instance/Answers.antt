use Rattle.window_laws.proofs.DueFacts.{next_by_first}
use Rattle.window_laws.proofs.due.next_bound_is_that_of_a_first_instance.Goals as goal

pub returns : goal.returns
returns c = next_by_first
