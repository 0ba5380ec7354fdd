-- The completions are found over plain lists.
use Rattle.count_shift.proofs.Shift.{move_changes_are}
use Rattle.count_shift.proofs.laws.watermark_completes_the_next_instances.Goals as goal

pub returns : goal.returns
returns c = λ window def key kept marks old new e h. move_changes_are window def key kept marks e h old new
