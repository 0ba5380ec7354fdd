-- Before the first end no interval is due, and at it one is.
use Rattle.std.proofs.Common.{◌∙◌, ◌<◌, ◌≤◌, length, arith, ap, sym}
use Rattle.std.proofs.lemmas.List.{nil_from_length}
use Rattle.stream_base.specs.Laws.{completions}
use Rattle.key_parts.specs.Calls.{window_at}
use Rattle.window_spans.specs.Spans.{due_of}
use Rattle.context_windows.proofs.Stretching.{marks_due_length}
use Rattle.context_windows.proofs.Dues.{some_due}
use Rattle.context_windows.proofs.OfMarks.{marks_window_is}
use Rattle.context_windows.proofs.mark_part.MarkPartKeyPart.next_due.Goals as goal

pub returns-clause-none_before : goal.returns-clause-none_before
returns-clause-none_before g c = λ key m n new s le l.
    let d = c.args.defs.now in
    let w = window_at d c.args.window in
    let open_ : c.args.self.now.windows.forgotten ≤ c.args.water = omega (arith, s.stood.bounded, s.water_is) in
    ap (λ def. completions key m new (c.args.window, def)) (sym (marks_window_is w s.stood.marks.kind))
    ∙ nil_from_length _
    (sym (ap length (sym (c.next_end.ensures.none_due new l))
    ∙ marks_due_length c.args.window w.func key m c.args.water new c.args.self.now.windows s.stood.follows open_ s.water_is))

pub returns-clause-some_at : goal.returns-clause-some_at
returns-clause-some_at g c = λ key m n s le.
    let d = c.args.defs.now in
    let w = window_at d c.args.window in
    let end = c.next_end.result in
    let open_ : c.args.self.now.windows.forgotten ≤ c.args.water = omega (arith, s.stood.bounded, s.water_is) in
    let due : (c.args.water < end) × (1 ≤ length (due_of c.args.water end c.args.self.now.windows.spans)) =
    some_due c.args.water end c.args.self.now.windows.spans (sym c.next_end.ensures.value) le in (
      due.0,
      λ none.
          let many = ap length (ap (λ def. completions key m end (c.args.window, def)) (marks_window_is w s.stood.marks.kind) ∙ none) in
          let same = marks_due_length c.args.window w.func key m c.args.water end c.args.self.now.windows s.stood.follows open_ s.water_is in
          omega (arith, due.1),
    )
