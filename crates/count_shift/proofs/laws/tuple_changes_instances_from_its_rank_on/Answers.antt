-- The changes are found over plain lists.
use Rattle.count_shift.proofs.Shift.{put_retracts_none, put_changes_are}
use Rattle.count_shift.proofs.laws.tuple_changes_instances_from_its_rank_on.Goals as goal

pub returns-clause-none_gone : goal.returns-clause-none_gone
returns-clause-none_gone c = λ window def key kept marks x water e h. put_retracts_none window def key kept marks e h x water

pub returns-clause-told : goal.returns-clause-told
returns-clause-told c = λ window def key kept marks x water e h n. put_changes_are window def key kept marks e h x water n
