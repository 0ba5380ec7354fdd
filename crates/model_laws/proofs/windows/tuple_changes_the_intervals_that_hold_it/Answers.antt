use Rattle.stream_base.proofs.Spans.{starts_after_put, within_put}
use Rattle.model_laws.proofs.windows.tuple_changes_the_intervals_that_hold_it.Goals as goal

pub returns-clause-starts : goal.returns-clause-starts
returns-clause-starts c = starts_after_put

pub returns-clause-selections : goal.returns-clause-selections
returns-clause-selections c = within_put
