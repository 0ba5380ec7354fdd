-- All from the time on are held.
use Rattle.std.proofs.Common.{◌≡◌, ◌∙◌, ◌++◌, [], ap, max, sym}
use Rattle.std.proofs.lemmas.List.{append-nil}
use Rattle.slice_lists.specs.Runs.{runs_within}
use Rattle.time_lanes.specs.Held.{Holding, partials_of}
use Rattle.time_lanes.proofs.HeldFacts.{pulled}
use Rattle.time_lanes.proofs.held.Held.pull.Goals as goal

pub returns-clause-held : goal.returns-clause-held
returns-clause-held g c = λ h.
    let s = (g.S.AggStore.stored c.args.store.now).slices in
    let none : runs_within c.loop-slice.at c.args.to s ≡ [] = c.in_default.ensures.none in
    let from_is = c.max-at.ensures ∙ ap (λ (h : Holding _). max c.args.from h.to) c.self.view_is in
    let to_is = c.max-self-inside.ensures ∙ ap (λ (h : Holding _). max h.to c.args.to) c.self-2.view_is ∙ ap (λ n. max n c.args.to) c.loop-slice.invariant.to in
    ap (λ (h : Holding _). h.partials) c.self-2.view_is
    ∙ sym (ap (λ l. c.loop-slice.self.partials ++ partials_of g.M.Partial.of_values l) none ∙ append-nil c.loop-slice.self.partials)
    ∙ c.loop-slice.invariant.partials
    ∙ ap (λ n. c.args.self.now.partials ++ partials_of g.M.Partial.of_values (runs_within n c.args.to s)) from_is
    ∙ pulled g.M.Partial.of_values c.args.from c.args.self.now.to c.args.to s c.args.self.now.partials c.in_default.ensures.holds.slices.ordered h
    ∙ ap (λ n. partials_of g.M.Partial.of_values (runs_within c.args.from n s)) (sym to_is)
