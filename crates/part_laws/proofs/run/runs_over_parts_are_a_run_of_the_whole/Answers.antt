-- The laws of parts, one behind the other.
use Rattle.std.proofs.Common.{length}
use Rattle.part_laws.proofs.JoinedRuns.{joined_is_report}
use Rattle.part_laws.proofs.WholeRuns.{whole_is_lawful}
use Rattle.part_laws.proofs.run.runs_over_parts_are_a_run_of_the_whole.Goals as goal

pub returns : goal.returns
returns c = record {
  lawful = whole_is_lawful;
  report = λ form d files journals. joined_is_report form d (length files) journals;
}
