use Rattle.context_windows.proofs.Enough.{holder_alike, left_enough}
use Rattle.context_windows.proofs.laws.marks_that_are_left_are_enough.Goals as goal

pub returns-clause-enough : goal.returns-clause-enough
returns-clause-enough c = left_enough

pub returns-clause-sides : goal.returns-clause-sides
returns-clause-sides c = λ from time some all h le. holder_alike from some all time h le
