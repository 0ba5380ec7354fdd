use Rattle.std.proofs.Common.{◌<◌, ℕ, Some, ap, sym, ◌∙◌, subst, arith}
use Rattle.turnstile.proofs.Numbers.{draws_number, hands_over}
use Rattle.turnstile.proofs.turnstile.Turnstile.split.Goals as goal

pub fetch_add-number-requires : goal.fetch_add-number-requires
fetch_add-number-requires g c = let sized = c.args.self.now.sized in let rest = c.args.pass.now.resting in (
  c.requires.own,
  omega (arith, sized.0),
  draws_number g.T.Keeps.items g.T.Keeps.fixed _ _ _ (subst (λ (n : ℕ). 0 < n) (sym (ap (λ m. m.0.room) rest)) c.requires.room)
      (ap (λ m. m.0.main.number) rest ∙ ap Some (c.args.pass.now.only_zero c.requires.room)) (ap (λ m. m.0.pending) rest) (ap (λ m. m.0.stage) rest) (ap (λ m. m.0.others) rest),
)

pub split_seat-seat-requires : goal.split_seat-seat-requires
split_seat-seat-requires g c = let sized = c.args.self.now.sized in let rest = c.args.pass.now.resting in let drawn = c.fetch_add-number.ensures in let now = drawn.2.now_is in (
  drawn.0 ∙ c.requires.own,
  omega (arith, sized.0),
  hands_over g.T.Keeps.items g.T.Keeps.fixed _ _ _ (ap (λ m. m.0.pending) now)
      (ap (λ m. m.0.main.number) now ∙ (ap (λ m. m.0.main.number) rest ∙ ap Some (c.args.pass.now.only_zero c.requires.room))) (ap (λ m. m.0.stage) now ∙ ap (λ m. m.0.stage) rest)
      (ap (λ m. m.0.others) now ∙ ap (λ m. m.0.others) rest),
)
