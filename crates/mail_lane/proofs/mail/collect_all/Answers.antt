use Rattle.std.proofs.Common.{◌≡◌, ◌+◌, ◌++◌, length, slice_get, Some, sym, ap, subst, ◌∙◌}
use Rattle.mail_lane.specs.declared.role.Role.TheVariants.{Sending}
use Rattle.mail_lane.specs.Rule.{sent_of}
use Rattle.mail_lane.proofs.Rules.{collects_as}
use Rattle.mail_lane.proofs.Senders.{item_after, length_back}
use Rattle.mail_lane.proofs.mail.collect_all.Goals as goal

-- the sender is the queue's, and its number is its place
next_sender : (g : _) (c : goal.After-pass-1 g) → (c.in-Some.sender.lane ≡ c.args.queue.now) × (c.in-Some.sender.number ≡ length c.args.receiver.back + length c.loop-sender.yielded)
next_sender g c =
    let left = ap (λ l. c.loop-sender.yielded ++ l) (sym c.in-Some.ensures.steps.0) ∙ c.loop-sender.invariant.left in
    c.requires.senders (length c.loop-sender.yielded) c.in-Some.sender
    (subst (λ l. slice_get l (length c.loop-sender.yielded) ≡ Some c.in-Some.sender) left (item_after c.loop-sender.yielded c.in-Some.sender _))

pub absorb-requires-clause-queue : goal.absorb-requires-clause-queue
absorb-requires-clause-queue g c =
    let lane = ap (λ s. s.lane) c.sender.view_is ∙ (next_sender g c).0 in
    (c.loop-sender.invariant.pass, ((λ i. (lane i).web, λ i. (lane i).heap), c.sender.invariant.0, c.sender.invariant.1))

pub absorb-requires-clause-rule : goal.absorb-requires-clause-rule
absorb-requires-clause-rule g c =
    let number = ap (λ s. s.number) c.sender.view_is ∙ (next_sender g c).1 ∙ length_back c.args.receiver.back c.loop-sender.yielded _ in
    collects_as _ _ _ _ _ _ _ _ c.loop-sender.invariant.role (c.sender.invariant.2 ∙ ap (λ n. Sending n (sent_of c.sender.inside.pass.me.view.client)) number)
