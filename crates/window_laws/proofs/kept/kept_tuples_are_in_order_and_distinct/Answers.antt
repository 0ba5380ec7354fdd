use Rattle.window_laws.proofs.KeptFacts.{journal_keeps, put_is_kept}
use Rattle.window_laws.proofs.kept.kept_tuples_are_in_order_and_distinct.Goals as goal

pub returns-clause-of_a_journal : goal.returns-clause-of_a_journal
returns-clause-of_a_journal c = journal_keeps

pub returns-clause-with_one_more : goal.returns-clause-with_one_more
returns-clause-with_one_more c = put_is_kept
