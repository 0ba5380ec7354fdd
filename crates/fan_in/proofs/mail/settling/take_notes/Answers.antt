use Rattle.std.proofs.Common.{arith, ◌≡◌, ◌<◌, length, get_or, sym, ap, ◌∙◌, ⊎_elim}
use Rattle.std.proofs.lemmas.Bool.{cases_eq}
use Rattle.std.proofs.lemmas.Grind.{get_or-set_at}
use Rattle.std.proofs.lemmas.List.{get_or_default, get_or-set_other, length-set}
use Rattle.fan_in.specs.Owning.{note_of}
use Rattle.fan_in.specs.Settling.{worse}
use Rattle.fan_in.proofs.mail.settling.take_notes.Goals as goal

pub loop-i-preserved : goal.loop-i-preserved
loop-i-preserved g c =
    let h = c.loop-i.invariant in
    let i = c.loop-i.i in
    let ends = c.loop-i.ends in
    let r = c.index-ends-i-in-loop-i.result in
    let li : i < length ends = omega (arith, h.many, c.loop-i-test.true) in
    record {
      many = length-set ends i _ ∙ h.many;
      made_feeds = λ j e l. ⊎_elim
          (λ (same : j ≡ i). ap (λ x. x.feed) (get_or-set_at ends i j _ e same li) ∙ ap (λ x. x.feed) (get_or_default ends i r e li ∙ h.rest i e (omega arith) ∙ ap (λ k. get_or c.args.ends.now k e) (sym same)))
          (λ ne. ap (λ x. x.feed) (get_or-set_other ends i j _ e ne) ∙ h.made_feeds j e (omega arith))
          (cases_eq j i);
      made_outcomes = λ j e l. ⊎_elim
          (λ (same : j ≡ i). ap (λ x. x.outcome) (get_or-set_at ends i j _ e same li) ∙ c.worse.ensures ∙ ap (λ x. worse x.outcome (note_of i c.args.notes.now)) (get_or_default ends i c.index-ends-i.result e li ∙ h.rest i e (omega arith) ∙ ap (λ k. get_or c.args.ends.now k e) (sym same)) ∙ ap (λ k. worse (get_or c.args.ends.now j e).outcome (note_of k c.args.notes.now)) (sym same))
          (λ ne. ap (λ x. x.outcome) (get_or-set_other ends i j _ e ne) ∙ h.made_outcomes j e (omega arith))
          (cases_eq j i);
      rest = λ j e l. get_or-set_other ends i j _ e (λ q. omega arith) ∙ h.rest j e (omega arith);
    }
