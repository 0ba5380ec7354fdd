use Rattle.window_laws.proofs.KindFacts.{instances_each}
use Rattle.window_laws.proofs.instances.times_alone_make_instances.Goals as goal

pub returns : goal.returns
returns c = instances_each
