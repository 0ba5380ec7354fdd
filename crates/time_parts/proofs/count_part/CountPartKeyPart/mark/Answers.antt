-- A mark changes no instance of event counts.
use Rattle.std.proofs.Common.{◌∙◌, ◌++◌, ap, sym, append-nil}
use Rattle.key_parts.specs.Calls.{window_at}
use Rattle.time_parts.proofs.CountFacts.{count_within, counts_at, mark_changes_no_count}
use Rattle.time_parts.proofs.count_part.CountPartKeyPart.mark.Goals as goal

pub returns-clause-changes : goal.returns-clause-changes
returns-clause-changes g c = λ m n before takes.
    let d = c.args.defs.now in
    let t = takes.stood.counts in
    let may = takes.step.held.may_leave in
    sym (ap (λ q. c.args.out.now.items ++ q) (mark_changes_no_count c.args.window c.args.key.now (window_at d c.args.window) m c.args.time (counts_at d c.args.window t) (count_within d c.args.window t may.kinds) may.kept.in_order) ∙ append-nil c.args.out.now.items)
