-- Up to the end of the first interval that isn't complete none becomes so, and there it does; what has left changes nothing.
use Rattle.std.proofs.Common.{◌≡◌, ◌≢◌, ◌∙◌, ◌<◌, ◌≤◌, ◌-◌, ◌^◌, [], ap, arith, sym, subst, inl, inr}
use Rattle.std.specs.List.{All}
use Rattle.std.proofs.lemmas.Bool.{cases_lt}
use Rattle.stream_base.specs.declared.kept.Kept.{Kept}
use Rattle.stream_base.specs.declared.limits.TheConstants.{FINAL, TIME_MAX}
use Rattle.stream_base.specs.Laws.{completions}
use Rattle.stream_base.specs.Model.Moments.{moment}
use Rattle.window_laws.specs.Due.{first_open}
use Rattle.window_laws.specs.Settled.{without_first}
use Rattle.window_laws.proofs.LeaveChanges.{leaves_at_move}
use Rattle.key_parts.specs.Calls.{window_at}
use Rattle.time_parts.specs.Places.{member_at, stands_at, timed_at}
use Rattle.time_parts.specs.Untold.{counts_not}
use Rattle.time_parts.proofs.DueFacts.{due_at, none_ever, timed_early}
use Rattle.time_parts.proofs.LaneFacts.{none_due}
use Rattle.time_parts.proofs.WindowFacts.{kept_without, within_at}
use Rattle.time_parts.proofs.lane_part.LanePartKeyPart.next_due.Goals as goal

pub returns-clause-none_before : goal.returns-clause-none_before
returns-clause-none_before g c = λ key m n new at onward below.
    let d = c.args.defs.now in
    let t = at.stood.timed in
    let may = at.held.may_leave in
    let w = window_at d c.args.window in
    let k = within_at d c.args.window t may.kinds in
    let ends : c.next_end.result ≡ first_open (without_first n m) w =
    c.next_end.ensures w m.marks (stands_at d c.args.window t)
    ∙ (λ i. first_open (moment (at.held.tuples i) m.marks (sym at.water_is i)) w) in
    leaves_at_move d m n c.args.window key w new may (member_at d c.args.window t) (counts_not d c.args.window t)
    ∙ elim (cases_lt c.next_end.result FINAL) [
      | inl l ↦ none_due c.args.window key w (without_first n m) new k (kept_without n m.kept may.kept).in_order (subst (λ e. new < e) (c.end_or_never.ensures.some l ∙ ends) below)
      | inr f ↦ none_ever c.args.window key w (without_first n m) new
          (timed_early w.kind (without_first n m).kept m.marks (timed_at d c.args.window t) k (subst (All (λ (x : Kept). x.time ≤ TIME_MAX)) at.held.tuples at.store.slices.in_time))
          (subst (λ e. FINAL ≤ e) ends f)
    ]

pub returns-clause-some_at : goal.returns-clause-some_at
returns-clause-some_at g c = λ key m n at le.
    let d = c.args.defs.now in
    let t = at.stood.timed in
    let may = at.held.may_leave in
    let w = window_at d c.args.window in
    let end = c.next_end.result in
    let ends : end ≡ first_open (without_first n m) w =
    c.next_end.ensures w m.marks (stands_at d c.args.window t)
    ∙ (λ i. first_open (moment (at.held.tuples i) m.marks (sym at.water_is i)) w) in
    elim (cases_lt end FINAL) [
      | inl l ↦ (let same : c.end_or_never.result ≡ end = c.end_or_never.ensures.some l in
          let due : (m.water < end) × (completions key (without_first n m) end (c.args.window, w) ≢ []) = due_at c.args.window key w (without_first n m) end ends l in (
            omega (arith, due.0, at.water_is),
            λ none. due.1
                (sym (leaves_at_move d m n c.args.window key w end may (member_at d c.args.window t) (counts_not d c.args.window t))
                ∙ ap (λ e. completions key m e (c.args.window, w)) (sym same) ∙ none),
          ))
      | inr f ↦ absurd (let never : c.end_or_never.result ≡ 2 ^ 64 - 1 = c.end_or_never.ensures.none f in omega arith)
    ]
