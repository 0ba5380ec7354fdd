use Rattle.held_laws.proofs.PartFacts.{slices_of_sessions, slices_of_windows}
use Rattle.held_laws.proofs.parts.slices_are_those_of_what_is_left.Goals as goal

pub returns-clause-windows : goal.returns-clause-windows
returns-clause-windows c = slices_of_windows

pub returns-clause-sessions : goal.returns-clause-sessions
returns-clause-sessions c = slices_of_sessions
