use Rattle.std.proofs.Common.{sym, ap, ◌∙◌}
use Rattle.mail_lane.specs.declared.role.Role.TheVariants.{Receiving}
use Rattle.mail_lane.proofs.Rules.{takes, learns_back}
use Rattle.mail_lane.proofs.States.{receiver_after, receiver_numbered}
use Rattle.mail_lane.proofs.mail.Mail.take.Goals as goal

pub pop_as-requires-clause-rule : goal.pop_as-requires-clause-rule
pop_as-requires-clause-rule g c = rw c.receiver.invariant.2 (takes _ _ _ _, learns_back _ _ _ _)

-- the letter is of one of the senders, and the receiver's list is longer by it
pub returns-clause-some : goal.returns-clause-some
returns-clause-some g c =
    let before = c.args.receiver.now in
    let x = c.in_ok-letter.letter in
    let is = c.receiver.invariant.2 ∙ ap (λ r. Receiving r.senders r.taken r.back) c.receiver.view_is in
    let step = c.in_ok-letter.ensures.rule.0 in
    let queue = c.in_ok-letter.ensures.queue.0.0 in
    let lane = (λ i. record { web = queue.0 i; heap = queue.1 i }) ∙ ap (λ m. m.id) c.self.view_is ∙ sym c.requires.0 in (
      x.from,
      receiver_numbered before.senders before.taken before.back _ _ x is step,
      receiver_after _ before _ _ x is step lane,
    )
