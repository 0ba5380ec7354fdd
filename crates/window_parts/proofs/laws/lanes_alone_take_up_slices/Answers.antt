use Rattle.window_parts.proofs.NoLane.{no_end, none_between, none_in_last}
use Rattle.window_parts.proofs.laws.lanes_alone_take_up_slices.Goals as goal
use Rattle.key_parts.specs.Calls.{window_kind}

pub returns-clause-completed : goal.returns-clause-completed
returns-clause-completed c = λ d window s old new t. none_between (window_kind d window) s old new t

pub returns-clause-last : goal.returns-clause-last
returns-clause-last c = λ d window s water t. none_in_last (window_kind d window) s water t

pub returns-clause-end : goal.returns-clause-end
returns-clause-end c = λ d window water t. no_end (window_kind d window) water t
