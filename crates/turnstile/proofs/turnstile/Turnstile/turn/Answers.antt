use Rattle.std.proofs.Common.{◌≡◌, ℕ, List, Some, get_or, ap, sym, ◌∙◌, subst, arith}
use Rattle.turnstile.specs.History.{AddsAtMostOne, of_number}
use Rattle.turnstile.specs.Steps.{made_in, turned_to, Fits, GivesBack, IsReady}
use Rattle.turnstile.proofs.Moves.{if_some-at, passes}
use Rattle.turnstile.proofs.Histories.{own_after}
use Rattle.turnstile.proofs.turnstile.Turnstile.turn.Goals as goal

pub fetch_add-requires : goal.fetch_add-requires
fetch_add-requires g c =
    let items = g.T.Keeps.items in let fix = g.T.Keeps.fixed in let n : ℕ = c.args.pass.now.number in
    let main = c.args.pass.now.seat.me.0.main in let sized = c.args.self.now.sized in let rest = c.args.pass.now.resting in
    let numbered : main.number ≡ Some n = ap (λ m. m.0.main.number) rest in
    let taken = c.enter.ensures.taken in let x = taken.1 in let ran = c.serve-reply.ensures.ran in let b = ran.0 in let y = ran.1 in
    let same : x ≡ b = ap (λ (l : List (ℕ × g.row.T.Denot)). (get_or l 0 (0, x)).1) (sym (ap (λ m. m.1) taken.2) ∙ ran.2) in
    let own : (of_number n (items x) ≡ main.made) × (main.fixed ≡ Some (fix x)) =
    if_some-at (λ m. (of_number m (items x) ≡ main.made) × (main.fixed ≡ Some (fix x))) main.number n numbered taken.3.own in
    let ready : IsReady items fix c.serve-reply.new.place.me = record {
      ticket = taken.0;
      list = items x;
      value = y;
      number = n;
      stage_is = ap (λ m. m.0.stage) ran.3 ∙ ap (λ m. m.0.stage) taken.2;
      held = ap (λ m. m.1) ran.3;
      number_is = ap (λ m. m.0.main.number) ran.3 ∙ (ap (λ m. m.0.main.number) taken.2 ∙ numbered);
      alone = ap (λ m. m.0.others) ran.3 ∙ (ap (λ m. m.0.others) taken.2 ∙ ap (λ m. m.0.others) rest);
      fixed_is = ap (λ m. m.0.main.fixed) ran.3 ∙ (ap (λ m. m.0.main.fixed) taken.2 ∙ (own.1 ∙ ap Some (ap fix same ∙ sym ran.4)));
      adds = subst (λ v. AddsAtMostOne n (items v) (items y)) (sym same) ran.5;
    } in
    (c.serve-reply.ensures.own ∙ (c.enter.ensures.own ∙ c.requires.own), omega (arith, sized.0), passes items fix _ _ _ ready)

pub returns-clause-turn : goal.returns-clause-turn
returns-clause-turn g c =
    let items = g.T.Keeps.items in let fix = g.T.Keeps.fixed in let n : ℕ = c.args.pass.now.number in
    let main = c.args.pass.now.seat.me.0.main in
    let numbered : main.number ≡ Some n = ap (λ m. m.0.main.number) c.args.pass.now.resting in
    let taken = c.enter.ensures.taken in let x = taken.1 in let ran = c.serve-reply.ensures.ran in let b = ran.0 in let y = ran.1 in let adds = ran.5 in
    let same : x ≡ b = ap (λ (l : List (ℕ × g.row.T.Denot)). (get_or l 0 (0, x)).1) (sym (ap (λ m. m.1) taken.2) ∙ ran.2) in
    let fits : Fits items fix main b = subst (Fits items fix main) same taken.3 in
    let own : (of_number n (items b) ≡ main.made) × (main.fixed ≡ Some (fix b)) =
    if_some-at (λ m. (of_number m (items b) ≡ main.made) × (main.fixed ≡ Some (fix b))) main.number n numbered fits.own in
    let gave = subst (GivesBack items fix c.serve-reply.new.place.me.0 c.fetch_add.new.seat.me) (ap (λ m. m.1) ran.3) c.fetch_add.ensures.2 in
    let now : c.fetch_add.new.seat.me.0.main ≡ turned_to (items y) main =
    ap (λ m. m.0.main) gave ∙ (ap (λ m. turned_to (items y) m.0.main) ran.3 ∙ ap (λ m. turned_to (items y) m.0.main) taken.2) in
    record {
      before = b;
      after = y;
      added = adds.0;
      fixed_before = own.1;
      fixed_after = own.1 ∙ ap Some (sym ran.4);
      begins = fits.seen;
      own = own.0;
      call = ran.6;
      at_most_one = adds.1;
      adds = adds.2;
      sees = ap (λ p. p.seen) now;
      makes = ap (λ p. p.made) now ∙ (ap (made_in (items y)) numbered ∙ (ap (of_number n) adds.2 ∙ own_after n (items b) adds.0 main.made own.0));
    }
