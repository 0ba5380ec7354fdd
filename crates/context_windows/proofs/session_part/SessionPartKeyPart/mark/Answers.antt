-- A mark changes no session.
use Rattle.std.proofs.Common.{◌++◌, ◌∙◌, ap, append-nil, sym}
use Rattle.key_parts.specs.Calls.{window_at}
use Rattle.context_windows.proofs.OfSessions.{none_changed}
use Rattle.context_windows.proofs.session_part.SessionPartKeyPart.mark.Goals as goal

pub returns-clause-changes : goal.returns-clause-changes
returns-clause-changes g c = λ m n before t.
    sym (append-nil c.args.out.now.items)
    ∙ ap (λ l. c.args.out.now.items ++ l) (sym (none_changed c.args.window c.args.key.now (window_at c.args.defs.now c.args.window) m c.args.time t.stood.session.session t.stood.follows.in_order))
