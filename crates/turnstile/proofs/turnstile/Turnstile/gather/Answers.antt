use Rattle.std.proofs.Common.{◌+◌, ◌∷◌, ◌++◌, [], map, ap, sym, ◌∙◌, subst, arith}
use Rattle.std.specs.Prelude.{Contains}
use Rattle.std.proofs.lemmas.List.Elements.{Contains-push, Contains-append_left}
use Rattle.turnstile.specs.Passes.{known}
use Rattle.turnstile.specs.Steps.{joined}
use Rattle.turnstile.proofs.Joins.{joins}
use Rattle.turnstile.proofs.Closing.{enters, gathered, rests_again}
use Rattle.turnstile.proofs.turnstile.Turnstile.gather.Goals as goal

pub load_new_seat-requires : goal.load_new_seat-requires
load_new_seat-requires g c = let sized = c.args.self.now.sized in (omega (arith, sized.0), enters g.T.Keeps.items g.T.Keeps.fixed _)

pub join_seat-requires : goal.join_seat-requires
join_seat-requires g c = let sized = c.args.self.now.sized in let i = c.loop-pass.invariant in let p = c.in-Some.pass in let is = c.into_place.ensures in
    let has = subst (λ l. Contains l p) (sym c.in-Some.ensures.items) (Contains-push c.pop.new.self.items p) in (
      i.place_own,
      ap (λ s. s.table_id) is ∙ i.own p has,
      ap (λ s. s.me.1) is ∙ ap (λ m. m.1) p.resting,
      omega (arith, sized.0),
      joins g.T.Keeps.items g.T.Keeps.fixed _ _ _ _ (ap (λ m. m.0.stage) i.rests) (ap (λ s. s.me.0.stage) is ∙ ap (λ m. m.0.stage) p.resting) (ap (λ m. m.0.pending) i.rests)
          (ap (λ s. s.me.0.pending) is ∙ ap (λ m. m.0.pending) p.resting),
    )

pub loop-pass-preserved : goal.loop-pass-preserved
loop-pass-preserved g c = let i = c.loop-pass.invariant in let p = c.in-Some.pass in let is = c.into_place.ensures in let w = c.into_place.result.me.0 in let both = c.join_seat.ensures in
    let place = c.loop-pass.place.me in record {
      own = λ q h. i.own q (subst (λ l. Contains l q) (sym c.in-Some.ensures.items) (Contains-append_left c.pop.new.self.items (p ∷ []) q h));
      place_own = both.0 ∙ i.place_own;
      rests = rests_again c.join_seat.new.seat.me ((w.main ∷ w.others) ++ place.0.others) (place.0.room + w.room) (both.2 ∙ ap (λ m. (joined m.0 w, m.1)) i.rests);
      known_all = ap (λ l. map known c.pop.new.self.items ++ l) (ap (λ m. m.0.others) both.2 ∙ (λ k. ((is k).me.0.main ∷ (is k).me.0.others) ++ place.0.others) ∙ ap (λ m. (known p ∷ m.0.others) ++ place.0.others) p.resting)
          ∙ gathered c.loop-pass.passes.items c.pop.new.self.items p place.0.others _ c.in-Some.ensures.items i.known_all;
    }
