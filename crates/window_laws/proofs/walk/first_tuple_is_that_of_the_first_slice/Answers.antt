use Rattle.window_laws.proofs.EdgeFacts.{first_of_slices}
use Rattle.window_laws.proofs.walk.first_tuple_is_that_of_the_first_slice.Goals as goal

pub returns : goal.returns
returns c = first_of_slices
