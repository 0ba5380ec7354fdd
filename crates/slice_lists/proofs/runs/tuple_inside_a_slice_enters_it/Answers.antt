use Rattle.slice_lists.proofs.RunSlices.{entered_slice}
use Rattle.slice_lists.proofs.runs.tuple_inside_a_slice_enters_it.Goals as goal

pub returns : goal.returns
returns c = entered_slice
