use Rattle.std.proofs.Common.{[]}
use Rattle.mail_lane.proofs.Rules.{opens}
use Rattle.mail_lane.proofs.mail.open_sender.Goals as goal

-- the receiver's pass knows no sender of this number yet
pub another-sender-requires-clause-rule : goal.another-sender-requires-clause-rule
another-sender-requires-clause-rule g c = rw c.requires.role (opens _ c.args.number [] [])
