use Rattle.held_laws.proofs.OpenFacts.{near_under_all_marks}
use Rattle.held_laws.proofs.counting.tuple_enters_the_same_slices_under_all_marks.Goals as goal

pub returns : goal.returns
returns c = near_under_all_marks
