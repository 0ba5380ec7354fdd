use Rattle.std.proofs.Common.{◌≡◌, length, ap, ◌∙◌, true≢false}
use Rattle.mail_lane.specs.declared.role.Role.TheVariants.{Receiving}
use Rattle.mail_lane.proofs.Rules.{takes, learns_left}
use Rattle.mail_lane.proofs.States.{not_whole, receiver_numbered, settled_after, taken_in_order}
use Rattle.mail_lane.proofs.settled.Settled.next.Goals as goal

pub pop_as-requires-clause-rule : goal.pop_as-requires-clause-rule
pop_as-requires-clause-rule g c = rw c.self.invariant.1.whole (takes _ _ _ _, learns_left _ _ _ _)

-- the receiver has all senders' lists
knows : (g : _) (c : goal.In_ok-left g) → c.self.inside.pass.me.view.client ≡ Receiving (length c.args.self.now.sent) c.args.self.now.taken c.args.self.now.sent
knows g c = c.self.invariant.1.whole ∙ ap (λ s. Receiving (length s.sent) s.taken s.sent) c.self.view_is

-- where a letter was left, not the whole was taken
pub returns-clause-whole : goal.returns-clause-whole
returns-clause-whole g c = (
  (λ e. absurd (true≢false e)),
  λ whole. absurd (not_whole c.args.self.now _ _ c.in_ok-left.left (knows g c) c.in_ok-left.ensures.rule.0 whole),
)

pub returns-clause-some : goal.returns-clause-some
returns-clause-some g c =
    let step = c.in_ok-left.ensures.rule.0 in (
      c.in_ok-left.left.from,
      receiver_numbered _ _ _ _ _ c.in_ok-left.left (knows g c) step,
      settled_after c.args.self.now _ _ c.in_ok-left.left (knows g c) step,
    )

pub returns-clause-in_order : goal.returns-clause-in_order
returns-clause-in_order g c = taken_in_order c.args.self.now _ _ c.in_ok-left.left (knows g c) c.in_ok-left.ensures.rule.0
