use Rattle.window_laws.proofs.EdgeFacts.{end_is_cut, instance_of_whole_runs, start_is_cut}
use Rattle.window_laws.proofs.slices.instances_select_whole_slices.Goals as goal

pub returns-clause-start : goal.returns-clause-start
returns-clause-start c = start_is_cut

pub returns-clause-end : goal.returns-clause-end
returns-clause-end c = end_is_cut

pub returns-clause-whole : goal.returns-clause-whole
returns-clause-whole c = instance_of_whole_runs
