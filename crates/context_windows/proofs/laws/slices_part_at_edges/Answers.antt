use Rattle.context_windows.proofs.Aligning.{edges_aligned}
use Rattle.context_windows.proofs.laws.slices_part_at_edges.Goals as goal

pub returns : goal.returns
returns c = edges_aligned
