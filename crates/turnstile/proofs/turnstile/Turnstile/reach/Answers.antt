use Rattle.std.proofs.Common.{ap, ◌∙◌, arith}
use Rattle.turnstile.proofs.Moves.{draws}
use Rattle.turnstile.proofs.Closing.{reaches}
use Rattle.turnstile.proofs.turnstile.Turnstile.reach.Goals as goal

pub fetch_add-ticket-requires : goal.fetch_add-ticket-requires
fetch_add-ticket-requires g c = let sized = c.args.self.now.sized in
    (c.requires.own, omega (arith, sized.0), draws g.T.Keeps.items g.T.Keeps.fixed _ _ _ c.requires.rests.0 c.requires.rests.2)

pub load-requires : goal.load-requires
load-requires g c = let drawn = c.fetch_add-ticket.ensures in let sized = c.args.self.now.sized in (
  c.loop.invariant.0 ∙ (drawn.0 ∙ c.requires.own),
  omega (arith, sized.0),
  reaches g.T.Keeps.items g.T.Keeps.fixed _ _ _ drawn.2.0 (ap (λ m. m.0.stage) (c.loop.invariant.2 ∙ drawn.2.2)),
)
