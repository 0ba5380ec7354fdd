use Rattle.stream_base.proofs.KindFacts.{instances_select}
use Rattle.model_laws.proofs.windows.instances_select_tuples.Goals as goal

pub returns : goal.returns
returns c = instances_select
