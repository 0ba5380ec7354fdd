use Rattle.slice_lists.proofs.MarkRuns.{cut_of_more, earlier_cut, later_cut}
use Rattle.slice_lists.proofs.runs.cuts_stay_where_times_move_apart.Goals as goal

pub returns-clause-later : goal.returns-clause-later
returns-clause-later c = later_cut

pub returns-clause-earlier : goal.returns-clause-earlier
returns-clause-earlier c = earlier_cut

pub returns-clause-mark : goal.returns-clause-mark
returns-clause-mark c = cut_of_more
