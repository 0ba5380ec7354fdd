use Rattle.window_defs.proofs.TroubleFacts.{first_in_trouble}
use Rattle.window_defs.proofs.window.first_in_trouble_is_named.Goals as goal

pub returns : goal.returns
returns c = record { named = first_in_trouble }
