use Rattle.stream_base.specs.Model.Windows.{instances_of}
use Rattle.stream_base.proofs.Distinct.{one_of_a_start, find_same}
use Rattle.stream_base.proofs.KindFacts.{instances_rise}
use Rattle.model_laws.proofs.windows.instances_are_distinct.Goals as goal

pub returns-clause-rise : goal.returns-clause-rise
returns-clause-rise c = instances_rise

pub returns-clause-one_of_a_start : goal.returns-clause-one_of_a_start
returns-clause-one_of_a_start c = λ kind kept marks i j k h c d e. one_of_a_start (instances_of kind kept marks) i j (instances_rise kind kept marks k h) c d e

pub returns-clause-found : goal.returns-clause-found
returns-clause-found c = λ kind kept marks i k h c. find_same (instances_of kind kept marks) i (instances_rise kind kept marks k h) c
