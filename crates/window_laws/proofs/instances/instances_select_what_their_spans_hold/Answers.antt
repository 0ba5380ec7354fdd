use Rattle.window_laws.proofs.KindFacts.{bounds_are_ends, spans_hold_selections}
use Rattle.window_laws.proofs.instances.instances_select_what_their_spans_hold.Goals as goal

pub returns-clause-selection : goal.returns-clause-selection
returns-clause-selection c = spans_hold_selections

pub returns-clause-bound : goal.returns-clause-bound
returns-clause-bound c = bounds_are_ends
