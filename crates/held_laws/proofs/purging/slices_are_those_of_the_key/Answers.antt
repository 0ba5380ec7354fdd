use Rattle.held_laws.proofs.SliceFacts.{slices_of_key}
use Rattle.held_laws.proofs.purging.slices_are_those_of_the_key.Goals as goal

pub returns : goal.returns
returns c = slices_of_key
