-- Before the first end no session is due, and at it one is.
use Rattle.std.proofs.Common.{◌≡◌, ◌∙◌, ◌<◌, ◌≤◌, length, arith, ap, sym}
use Rattle.std.proofs.lemmas.List.{nil_from_length}
use Rattle.stream_base.specs.Laws.{completions}
use Rattle.key_parts.specs.Calls.{window_at}
use Rattle.window_spans.specs.Spans.{due_of}
use Rattle.context_windows.proofs.Following.{completions_length}
use Rattle.context_windows.proofs.Dues.{some_due}
use Rattle.context_windows.proofs.session_part.SessionPartKeyPart.next_due.Goals as goal

pub returns-clause-none_before : goal.returns-clause-none_before
returns-clause-none_before g c = λ key m n new s le l.
    let d = c.args.defs.now in
    let w = window_at d c.args.window in
    let open_ : c.args.self.now.sessions.forgotten ≤ c.args.water = omega (arith, s.stood.bounded, s.water_is) in
    nil_from_length _
    (sym (ap length (sym (c.next_end.ensures.none_due new l))
    ∙ completions_length c.args.window w key m c.args.water new c.args.self.now.sessions s.stood.session.session s.stood.follows open_ s.water_is))

pub returns-clause-some_at : goal.returns-clause-some_at
returns-clause-some_at g c = λ key m n s le.
    let d = c.args.defs.now in
    let w = window_at d c.args.window in
    let end = c.next_end.result in
    let open_ : c.args.self.now.sessions.forgotten ≤ c.args.water = omega (arith, s.stood.bounded, s.water_is) in
    let due : (c.args.water < end) × (1 ≤ length (due_of c.args.water end c.args.self.now.sessions.spans)) =
    some_due c.args.water end c.args.self.now.sessions.spans (sym c.next_end.ensures.value) le in (
      due.0,
      λ none.
          let many : length (completions key m end (c.args.window, w)) ≡ 0 = ap length none in
          let same = completions_length c.args.window w key m c.args.water end c.args.self.now.sessions s.stood.session.session s.stood.follows open_ s.water_is in
          omega (arith, due.1),
    )
