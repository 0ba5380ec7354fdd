use Rattle.std.proofs.Common.{◌<◌, ap, sym, ◌∙◌, subst, arith}
use Rattle.turnstile.specs.Rule.{rights}
use Rattle.turnstile.proofs.Moves.{draws, looks}
use Rattle.turnstile.proofs.turnstile.Turnstile.enter.Goals as goal

pub fetch_add-ticket-requires : goal.fetch_add-ticket-requires
fetch_add-ticket-requires g c = let is = c.requires.rests.2 in let sized = c.args.self.now.sized in (
  c.requires.own,
  omega (arith, sized.0),
  draws g.T.Keeps.items g.T.Keeps.fixed _ _ _ (ap (λ m. m.0.stage) is) (subst (λ m. 0 < rights m.0) (sym is) (omega arith)),
)

pub load-requires : goal.load-requires
load-requires g c = let drawn = c.fetch_add-ticket.ensures in let sized = c.args.self.now.sized in (
  c.loop.invariant.0 ∙ (drawn.0 ∙ c.requires.own),
  omega (arith, sized.0),
  looks g.T.Keeps.items g.T.Keeps.fixed _ _ _ drawn.2.0 (ap (λ m. m.0.stage) (c.loop.invariant.2 ∙ drawn.2.2)),
)
