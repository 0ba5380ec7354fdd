use Rattle.scotty_run.proofs.InMemory.{of_told}
use Rattle.scotty_run.proofs.in_memory.report_is_of_what_files_tell.Goals as goal

pub returns : goal.returns
returns c = of_told
