-- The sessions that are due are those that become complete.
use Rattle.std.proofs.Common.{◌≡◌, ◌∙◌, ◌≤◌, ◌-◌, length, take, drop, ap, sym, arith, rules}
use Rattle.std.proofs.lemmas.List.{length-drop, length-take}
use Rattle.key_parts.specs.Calls.{window_at}
use Rattle.window_spans.specs.Spans.{due_of}
use Rattle.context_windows.proofs.Following.{completions_length}
use Rattle.context_windows.proofs.sessions.Sessions.due.Goals as goal

pub returns-clause-rows : goal.returns-clause-rows
returns-clause-rows c = λ key m f le at.
    let from = c.due-places.result.from in
    let to = c.due-places.result.to in
    let is : due_of c.args.old c.args.new c.args.self.now.spans ≡ take (to - from) (drop from c.deref.result.now) = search rules in
    let within : to ≤ length c.deref.result.now = c.due-places.ensures.within in
    let number : length (take (to - from) (drop from c.deref.result.now)) ≡ to - from = simp (length-take, length-drop) (omega arith) in
    sym number ∙ ap length (sym is)
    ∙ completions_length c.args.window (window_at c.args.defs.now c.args.window) key m c.args.old c.args.new c.args.self.now c.requires.session f le at
