use Rattle.slice_lists.proofs.MarkRuns.{runs_after_mark}
use Rattle.slice_lists.proofs.runs.mark_parts_the_slices.Goals as goal

pub returns : goal.returns
returns c = runs_after_mark
