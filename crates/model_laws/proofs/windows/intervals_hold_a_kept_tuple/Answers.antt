use Rattle.stream_base.proofs.Spans.{starts_hold_kept, starts_increase}
use Rattle.model_laws.proofs.windows.intervals_hold_a_kept_tuple.Goals as goal

pub returns-clause-members : goal.returns-clause-members
returns-clause-members c = λ length slide kept low moves overlaps. starts_hold_kept length slide kept low moves overlaps

pub returns-clause-rising : goal.returns-clause-rising
returns-clause-rising c = starts_increase
