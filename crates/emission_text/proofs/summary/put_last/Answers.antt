-- Where no row is the last one, there is no line.
use Rattle.std.proofs.Common.{rules}
use Rattle.emission_text.proofs.Sent.{puts_nothing}
use Rattle.emission_text.proofs.summary.put_last.Goals as goal

pub returns-in-None : goal.returns-in-None
returns-in-None g c = search (rules, puts_nothing)
