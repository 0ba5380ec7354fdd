use Rattle.window_laws.proofs.EdgeFacts.{interval_ends_align, interval_starts_align, marks_align}
use Rattle.window_laws.proofs.slices.slices_part_at_starts_ends_and_marks.Goals as goal

pub returns-clause-starts : goal.returns-clause-starts
returns-clause-starts c = interval_starts_align

pub returns-clause-ends : goal.returns-clause-ends
returns-clause-ends c = interval_ends_align

pub returns-clause-marks : goal.returns-clause-marks
returns-clause-marks c = marks_align
