use Rattle.std.proofs.Common.{◌∷◌, ◌++◌, refl, ap, ◌∙◌, arith}
use Rattle.turnstile.specs.Steps.{copy_of}
use Rattle.turnstile.proofs.Joins.{copies, joins, compares}
use Rattle.turnstile.proofs.turnstile.Turnstile.tell.Goals as goal

pub split_seat-copy-requires : goal.split_seat-copy-requires
split_seat-copy-requires g c = let sized = c.args.self.now.sized in (c.requires.own.0, omega (arith, sized.0), copies g.T.Keeps.items g.T.Keeps.fixed _ _)

pub join_seat-requires : goal.join_seat-requires
join_seat-requires g c = let sized = c.args.self.now.sized in let rest = c.args.to.now.resting in let copy = c.split_seat-copy.ensures in let is = copy.4 in (
  c.requires.own.1,
  copy.3 ∙ c.requires.own.0,
  ap (λ m. m.1) is,
  omega (arith, sized.0),
  joins g.T.Keeps.items g.T.Keeps.fixed _ _ _ _ (ap (λ m. m.0.stage) rest) (ap (λ m. m.0.stage) is) (ap (λ m. m.0.pending) rest) (ap (λ m. m.0.pending) is),
)

pub load-requires : goal.load-requires
load-requires g c = let sized = c.args.self.now.sized in let rest = c.args.to.now.resting in let is = c.split_seat-copy.ensures.4 in let both = c.join_seat.ensures in (
  both.0 ∙ c.requires.own.1,
  omega (arith, sized.0),
  compares g.T.Keeps.items g.T.Keeps.fixed _ _ _ (copy_of c.args.from.now.seat.me.0).main
      (ap (λ m. m.0.others) both.2 ∙ (λ i. ((is i).0.main ∷ (is i).0.others) ++ (rest i).0.others)) refl refl,
)
