use Rattle.std.proofs.Common.{sym, ◌∙◌}
use Rattle.mail_lane.specs.Rule.{IsSettled}
use Rattle.mail_lane.proofs.Rules.{learns_left}
use Rattle.mail_lane.proofs.Senders.{length_back}
use Rattle.mail_lane.proofs.States.{settles, settled_in_order}
use Rattle.mail_lane.proofs.mail.Mail.settle.Goals as goal

pub len_as-requires-clause-rule : goal.len_as-requires-clause-rule
len_as-requires-clause-rule g c = rw c.collect_all-pass.ensures.role (learns_left _ _ _ _)

-- what the length's moment showed of the rest holds of the settled lane
is_settled : (g : _) (c : goal.After-len_as g) → IsSettled c.len_as.new.pass.me.view.client
is_settled g c =
    let all = sym (length_back c.args.receiver.back c.args.senders.items _) ∙ c.requires.senders.0 ∙ sym c.requires.receiver.1 in
    let same = c.len_as.ensures.queue.2 in
    settles _ _ _ _ (same ∙ c.collect_all-pass.ensures.role) all c.len_as.ensures.rule.0 (rw same c.len_as.ensures.rule.2)

pub invariant_of-result : goal.invariant_of-result
invariant_of-result g c = (c.len_as.ensures.queue.0, is_settled g c)

pub returns-clause-in_order : goal.returns-clause-in_order
returns-clause-in_order g c = settled_in_order _ (is_settled g c)
