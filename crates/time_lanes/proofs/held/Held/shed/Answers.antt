-- All from the other time on are held.
use Rattle.std.proofs.Common.{◌≡◌, ◌∙◌, ap, arith, drop, length, sym}
use Rattle.std.proofs.lemmas.List.{drop-drop}
use Rattle.std.specs.Prelude.{min}
use Rattle.slice_lists.specs.Runs.{runs_within}
use Rattle.time_lanes.specs.Held.{Holding, partials_of}
use Rattle.time_lanes.proofs.HeldFacts.{shed_from}
use Rattle.time_lanes.proofs.held.Held.shed.Goals as goal

pub loop-k-preserved : goal.loop-k-preserved
loop-k-preserved g c =
    let h = c.loop-k.invariant in
    let gone = c.let_go.ensures.lets_go in
    record {
      partials = gone.partials ∙ ap (drop 1) h.partials ∙ drop-drop 1 c.loop-k._k c.args.self.now.partials;
      to = c.let_go.ensures.to ∙ h.to;
      spare = omega (arith, gone.spare, h.spare);
      cost = omega (arith, gone.cost, h.cost);
    }

pub returns-clause-held : goal.returns-clause-held
returns-clause-held g c = λ le h.
    let s = (g.S.AggStore.stored c.args.store.now).slices in
    let end_is = c.min-end.ensures ∙ ap (λ (h : Holding _). min c.args.to h.to) c.self.view_is in
    let all : c.loop-k._k ≡ c.slices_within-many.result = omega arith in
    c.loop-k.invariant.partials
    ∙ ap (λ n. drop n c.args.self.now.partials) (all ∙ c.slices_within-many.ensures.count)
    ∙ ap (λ n. drop (length (runs_within c.args.from n s)) c.args.self.now.partials) end_is
    ∙ shed_from g.M.Partial.of_values c.args.from c.args.to c.args.self.now.to s c.args.self.now.partials c.slices_within-many.ensures.holds.slices.ordered le h
    ∙ ap (λ n. partials_of g.M.Partial.of_values (runs_within c.args.to n s)) (sym c.loop-k.invariant.to)
