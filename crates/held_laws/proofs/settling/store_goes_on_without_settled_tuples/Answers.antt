use Rattle.held_laws.proofs.OpenFacts.{open_after_mark, open_after_tuple, open_before, open_from}
use Rattle.held_laws.proofs.settling.store_goes_on_without_settled_tuples.Goals as goal

pub returns-clause-from : goal.returns-clause-from
returns-clause-from c = open_from

pub returns-clause-tuple : goal.returns-clause-tuple
returns-clause-tuple c = open_after_tuple

pub returns-clause-mark : goal.returns-clause-mark
returns-clause-mark c = open_after_mark

pub returns-clause-earlier : goal.returns-clause-earlier
returns-clause-earlier c = open_before
