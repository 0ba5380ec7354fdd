use Rattle.window_laws.proofs.EdgeFacts.{aligned_interval}
use Rattle.window_laws.proofs.slices.aligned_intervals_select_whole_slices.Goals as goal

pub returns : goal.returns
returns c = aligned_interval
