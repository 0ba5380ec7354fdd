-- One row more.
use Rattle.emission_text.proofs.Tallies.{tally_more}
use Rattle.emission_text.proofs.tally.Tally.add.Goals as goal

pub returns-clause-counted : goal.returns-clause-counted
returns-clause-counted c = λ own h. rw c.from.ensures (tally_more own c.args.self.now c.args.row.now h)
