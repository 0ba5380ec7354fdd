use Rattle.stream_base.proofs.CutFacts.{cut_stays}
use Rattle.model_laws.proofs.CutLaws.{cut_before_or_behind, no_cut_at_one_time}
use Rattle.model_laws.proofs.cuts.cuts_stay_as_times_move_apart.Goals as goal

pub returns-clause-apart : goal.returns-clause-apart
returns-clause-apart c = λ windows marks low high below above within a b h. cut_stays windows marks low high below above a b h

pub returns-clause-one_time : goal.returns-clause-one_time
returns-clause-one_time c = no_cut_at_one_time

pub returns-clause-between : goal.returns-clause-between
returns-clause-between c = cut_before_or_behind
