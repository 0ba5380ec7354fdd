use Rattle.slice_lists.proofs.RunSlices.{extended_slice, fronted_slice, merged_slices, slice_alone}
use Rattle.slice_lists.proofs.runs.cuts_at_the_sides_decide.Goals as goal

pub returns-clause-alone : goal.returns-clause-alone
returns-clause-alone c = slice_alone

pub returns-clause-fronted : goal.returns-clause-fronted
returns-clause-fronted c = fronted_slice

pub returns-clause-extended : goal.returns-clause-extended
returns-clause-extended c = extended_slice

pub returns-clause-merged : goal.returns-clause-merged
returns-clause-merged c = merged_slices
