use Rattle.std.proofs.Common.{◌≡◌, ◌+◌, [], sym, ap, ◌∙◌}
use Rattle.std.proofs.lemmas.List.{length-append}
use Rattle.std.proofs.lemmas.List.Elements.{All-push}
use Rattle.mail_lane.proofs.Rules.{begins}
use Rattle.mail_lane.proofs.Senders.{placed_push}
use Rattle.mail_lane.proofs.mail.Mail.new.Goals as goal

pub with_rule-requires : goal.with_rule-requires
with_rule-requires g c = begins

-- the new sender is the last, under the number that comes next
pub loop-number-preserved : goal.loop-number-preserved
loop-number-preserved g c =
    let kept = c.loop-number.invariant in
    let is = c.open_sender.ensures.sender in
    let placed = placed_push c.loop-number.all.items c.open_sender.result c.in_ok-queue.queue kept.placed (ap (λ s. s.lane) is) (ap (λ s. s.number) is ∙ sym kept.count) in
    let unsent = All-push (λ s. s.sent ≡ []) c.loop-number.all.items c.open_sender.result kept.unsent (ap (λ s. s.sent) is) in
    record {
      pass = c.open_sender.ensures.pass;
      role = c.open_sender.ensures.role;
      count = rw (c.in_ok-push.ensures.items, length-append) (ap (λ n. n + 1) kept.count);
      placed = rw c.in_ok-push.ensures.items placed;
      unsent = rw c.in_ok-push.ensures.items unsent;
    }
