use Rattle.stream_base.specs.Model.Cuts.{has_cut}
use Rattle.slice_lists.proofs.RunEdits.{pieces_are_runs, runs_are_pieces}
use Rattle.slice_lists.proofs.runs.slices_are_told_by_their_neighbours.Goals as goal

pub returns-clause-alone : goal.returns-clause-alone
returns-clause-alone c = λ windows marks slices. runs_are_pieces (has_cut windows marks) slices

pub returns-clause-are : goal.returns-clause-are
returns-clause-are c = λ windows marks kept. pieces_are_runs (has_cut windows marks) kept
