-- Up to the time of the tuple that fills the next instance none becomes complete, and there it does.
use Rattle.std.proofs.Common.{◌≡◌, ◌≢◌, ◌∙◌, ◌<◌, ◌≤◌, ◌-◌, ◌^◌, [], ap, arith, sym, subst, inl, inr}
use Rattle.std.proofs.lemmas.Bool.{cases_lt}
use Rattle.stream_base.specs.declared.def.Def.{Def}
use Rattle.stream_base.specs.declared.limits.TheConstants.{FINAL}
use Rattle.stream_base.specs.Laws.{completions}
use Rattle.count_shift.specs.Counting.{count_of}
use Rattle.window_laws.specs.Due.{first_open}
use Rattle.key_parts.specs.Calls.{window_at, window_kind}
use Rattle.time_parts.proofs.CountFacts.{count_within, counts_at, filled_early, filled_is_open, follows_from}
use Rattle.time_parts.proofs.DueFacts.{due_at, none_ever}
use Rattle.time_parts.proofs.LaneFacts.{none_due}
use Rattle.time_parts.proofs.count_part.CountPartKeyPart.next_due.Given as given
use Rattle.time_parts.proofs.count_part.CountPartKeyPart.next_due.Goals as goal

-- how many tuples an instance selects
counts_of : (g : given.Over) (c : goal.After-end_or_never g) → c.count_of-count.result ≡ count_of (window_kind c.args.defs.now c.args.window)
counts_of g c = c.count_of-count.ensures.value ∙ ap (λ (w : Def). count_of w.kind) c.window_at.ensures.stands

pub returns-clause-none_before : goal.returns-clause-none_before
returns-clause-none_before g c = λ key m n new at onward below.
    let d = c.args.defs.now in
    let t = at.stood.counts in
    let may = at.held.may_leave in
    let w = window_at d c.args.window in
    let k = count_within d c.args.window t may.kinds in
    let ends : c.next_filled.result ≡ first_open m w =
    filled_is_open w m c.args.water c.count_of-count.result c.next_filled.result (counts_at d c.args.window t) k may.kept.in_order (counts_of g c) at.water_is
    (c.next_filled.ensures m.kept (follows_from d c.args.window m c.self.inside.lane c.args.self.now c.count_of-count.result c.args.water c.self.view_is (counts_of g c) (omega (arith, at.water_is)) at.stood)) in
    elim (cases_lt c.next_filled.result FINAL) [
      | inl l ↦ none_due c.args.window key w m new k may.kept.in_order (subst (λ e. new < e) (c.end_or_never.ensures.some l ∙ ends) below)
      | inr f ↦ none_ever c.args.window key w m new (filled_early w m (counts_at d c.args.window t) k may.kept.early) (subst (λ e. FINAL ≤ e) ends f)
    ]

pub returns-clause-some_at : goal.returns-clause-some_at
returns-clause-some_at g c = λ key m n at le.
    let d = c.args.defs.now in
    let t = at.stood.counts in
    let may = at.held.may_leave in
    let w = window_at d c.args.window in
    let end = c.next_filled.result in
    let ends : end ≡ first_open m w =
    filled_is_open w m c.args.water c.count_of-count.result end (counts_at d c.args.window t) (count_within d c.args.window t may.kinds) may.kept.in_order (counts_of g c) at.water_is
    (c.next_filled.ensures m.kept (follows_from d c.args.window m c.self.inside.lane c.args.self.now c.count_of-count.result c.args.water c.self.view_is (counts_of g c) (omega (arith, at.water_is)) at.stood)) in
    elim (cases_lt end FINAL) [
      | inl l ↦ (let same : c.end_or_never.result ≡ end = c.end_or_never.ensures.some l in
          let due : (m.water < end) × (completions key m end (c.args.window, w) ≢ []) = due_at c.args.window key w m end ends l in
          (omega (arith, due.0, at.water_is), λ none. due.1 (ap (λ e. completions key m e (c.args.window, w)) (sym same) ∙ none)))
      | inr f ↦ absurd (let never : c.end_or_never.result ≡ 2 ^ 64 - 1 = c.end_or_never.ensures.none f in omega arith)
    ]
