use Rattle.std.proofs.Common.{◌≡◌, List, [], ◌∷◌, ◌++◌, ap, sym, ◌∙◌, subst}
use Rattle.atomic_table.specs.Table.{opening}
use Rattle.turnstile.specs.Rule.{Rule}
use Rattle.turnstile.specs.Steps.{first_view}
use Rattle.turnstile.proofs.Moves.{opens}
use Rattle.turnstile.proofs.turnstile.Turnstile.new.Goals as goal

pub new-requires : goal.new-requires
new-requires g c =
    let x = c.args.value in
    let is : c.push.new.self.items ≡ x ∷ [] = c.in_ok-push.ensures.items ∙ ap (λ l. l ++ x ∷ []) c.in_ok-slots.ensures.items in
    subst (λ (z : List g.row.T.Denot × g.row.T-Fixed.Denot). Rule g.T.Keeps.items g.T.Keeps.fixed (opening (0 ∷ 0 ∷ 1 ∷ []) z.0 (first_view z.1)))
    (λ i. (sym is i, ap g.T.Keeps.fixed (sym c.of-origin.ensures) i)) (opens g.T.Keeps.items g.T.Keeps.fixed x c.requires)
