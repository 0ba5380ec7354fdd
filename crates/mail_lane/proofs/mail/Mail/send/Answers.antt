use Rattle.mail_lane.proofs.Rules.{sends}
use Rattle.mail_lane.proofs.mail.Mail.send.Goals as goal

-- the letter has the number of the sender's pass
pub push_as-requires-clause-rule : goal.push_as-requires-clause-rule
push_as-requires-clause-rule g c = λ n. rw c.sender.invariant.2 (sends n _ _ _)
