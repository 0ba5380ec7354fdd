use Rattle.std.proofs.Common.{◌<◌, ap, sym, ◌∙◌, subst, arith}
use Rattle.turnstile.specs.declared.view.Stage.TheVariants.{Reached}
use Rattle.turnstile.specs.Rule.{rights}
use Rattle.turnstile.specs.Steps.{at_stage}
use Rattle.turnstile.proofs.Closing.{right_of_some, closing_begins, closing_made, closing_fixed, closing_apart, closing_complete}
use Rattle.turnstile.proofs.turnstile.Turnstile.close.Goals as goal

pub reach-requires-clause-rests : goal.reach-requires-clause-rests
reach-requires-clause-rests g c = let is = c.gather-place.ensures.rests in (
  ap (λ m. m.0.stage) is,
  ap (λ m. m.1) is,
  subst (λ m. 0 < rights m.0) (sym is) (right_of_some c.args.passes.items c.gather-place.result.me.0.room (omega (arith, c.args.passes.ok.0))),
)

pub returns-in-Ok-clause-apart : goal.returns-in-Ok-clause-apart
returns-in-Ok-clause-apart g c = let at = c.reach.ensures.reached in
    closing_apart c.args.passes.items c.reach.new.place.me.0 (Reached at.0) c.gather-place.result.me.0.room
    (ap (λ m. m.0) at.1 ∙ ap (λ m. at_stage (Reached at.0) m.0) c.gather-place.ensures.rests) c.take_out.result c.take_out.ensures

pub returns-in-Ok-clause-fixed : goal.returns-in-Ok-clause-fixed
returns-in-Ok-clause-fixed g c = let at = c.reach.ensures.reached in
    closing_fixed c.args.passes.items c.reach.new.place.me.0 (Reached at.0) c.gather-place.result.me.0.room
    (ap (λ m. m.0) at.1 ∙ ap (λ m. at_stage (Reached at.0) m.0) c.gather-place.ensures.rests) c.take_out.result c.take_out.ensures

pub returns-in-Ok-clause-begins : goal.returns-in-Ok-clause-begins
returns-in-Ok-clause-begins g c = let at = c.reach.ensures.reached in
    closing_begins c.args.passes.items c.reach.new.place.me.0 (Reached at.0) c.gather-place.result.me.0.room
    (ap (λ m. m.0) at.1 ∙ ap (λ m. at_stage (Reached at.0) m.0) c.gather-place.ensures.rests) c.take_out.result c.take_out.ensures

pub returns-in-Ok-clause-made : goal.returns-in-Ok-clause-made
returns-in-Ok-clause-made g c = let at = c.reach.ensures.reached in
    closing_made c.args.passes.items c.reach.new.place.me.0 (Reached at.0) c.gather-place.result.me.0.room
    (ap (λ m. m.0) at.1 ∙ ap (λ m. at_stage (Reached at.0) m.0) c.gather-place.ensures.rests) c.take_out.result c.take_out.ensures

pub returns-in-Ok-clause-complete : goal.returns-in-Ok-clause-complete
returns-in-Ok-clause-complete g c = let at = c.reach.ensures.reached in
    closing_complete c.args.passes.items c.reach.new.place.me.0 (Reached at.0) c.gather-place.result.me.0.room
    (ap (λ m. m.0) at.1 ∙ ap (λ m. at_stage (Reached at.0) m.0) c.gather-place.ensures.rests) c.take_out.result c.take_out.ensures
