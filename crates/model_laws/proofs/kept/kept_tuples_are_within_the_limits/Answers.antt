use Rattle.model_laws.proofs.Accepted.{kept_times_within, kept_values_fit, marks_within}
use Rattle.model_laws.proofs.kept.kept_tuples_are_within_the_limits.Goals as goal

pub returns-clause-values : goal.returns-clause-values
returns-clause-values c = kept_values_fit

pub returns-clause-times : goal.returns-clause-times
returns-clause-times c = kept_times_within

pub returns-clause-marks : goal.returns-clause-marks
returns-clause-marks c = marks_within
