-- Each row folds the tuples of an instance.
use Rattle.std.proofs.Common.{◌≡◌, ◌∙◌, ◌≤◌, ◌+◌, ◌-◌, ◌*◌, ap, sym, subst, arith, vec_len}
use Rattle.std.specs.Prelude.{◌++◌, min}
use Rattle.stream_base.specs.declared.def.Def.{Def}
use Rattle.stream_base.specs.Laws.{completions}
use Rattle.stream_base.specs.Model.Moments.{moment}
use Rattle.count_shift.specs.Counting.{count_of}
use Rattle.key_parts.specs.Work.{row_work}
use Rattle.key_parts.specs.Calls.{window_kind}
use Rattle.time_parts.specs.Counted.{counts_on}
use Rattle.time_parts.proofs.CountFacts.{counted_row, counts_at, follows_from}
use Rattle.time_parts.proofs.count_part.CountPartKeyPart.water.Goals as goal

pub returns-clause-stands : goal.returns-clause-stands
returns-clause-stands g c = λ m n at.
    counts_on c.args.defs.now c.args.window m c.args.new c.args.self.now at.stood (omega (arith, at.water_is, c.requires.moves.leads_on.rises))

pub returns-clause-changes : goal.returns-clause-changes
returns-clause-changes g c = λ m n at.
    let d = c.args.defs.now in
    let counts : count_of c.window_at-def.result.kind ≡ count_of (window_kind d c.args.window) = ap (λ (w : Def). count_of w.kind) c.window_at-def.ensures.stands in
    c.rows.ensures.changes m.kept m.marks (follows_from d c.args.window m c.self.inside.lane c.args.self.now (count_of c.window_at-def.result.kind) (min c.args.old c.args.new) c.self.view_is counts (omega (arith, at.water_is, c.requires.moves.leads_on.rises)) at.stood)
    ∙ (λ j. c.args.out.now.items ++ completions c.args.key.now (moment m.kept m.marks (sym at.water_is j)) c.args.new (c.args.window, c.window_at-def.ensures.stands j))

pub returns-clause-work_ahead : goal.returns-clause-work_ahead
returns-clause-work_ahead g c = λ m n at ahead.
    let d = c.args.defs.now in
    let row : count_of c.window_at-def.result.kind ≡ row_work (window_kind d c.args.window) (g.S.AggStore.stored c.args.store.now).reach =
    ap (λ (w : Def). count_of w.kind) c.window_at-def.ensures.stands ∙ sym (counted_row (window_kind d c.args.window) (g.S.AggStore.stored c.args.store.now).reach (counts_at d c.args.window at.stood.counts)) in
    let cost = subst (λ k. c.rows.new.steps ≤ c.args.steps.now + k * (vec_len c.rows.new.out - vec_len c.args.out.now)) row c.rows.ensures.cost in
    omega (arith, cost)

pub returns-clause-work : goal.returns-clause-work
returns-clause-work g c = λ m n at.
    omega (arith, returns-clause-work_ahead g c m n at tt)

pub returns-clause-bound : goal.returns-clause-bound
returns-clause-bound g c = λ m n at.
    omega (arith, returns-clause-work_ahead g c m n at tt)
