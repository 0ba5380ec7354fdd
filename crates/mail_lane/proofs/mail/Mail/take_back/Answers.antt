use Rattle.std.proofs.Common.{length, sym, ap, ◌∙◌}
use Rattle.mail_lane.specs.declared.role.Role.TheVariants.{Sending}
use Rattle.mail_lane.specs.Rule.{sent_of}
use Rattle.mail_lane.proofs.Rules.{collects_as}
use Rattle.mail_lane.proofs.mail.Mail.take_back.Goals as goal

-- the sender is the next that comes back
pub absorb-requires-clause-rule : goal.absorb-requires-clause-rule
absorb-requires-clause-rule g c =
    let number = ap (λ s. s.number) c.sender.view_is ∙ c.requires.next ∙ sym (ap (λ r. length r.back) c.receiver.view_is) in
    collects_as _ _ _ _ _ _ _ _ c.receiver.invariant.2 (c.sender.invariant.2 ∙ ap (λ n. Sending n (sent_of c.sender.inside.pass.me.view.client)) number)
