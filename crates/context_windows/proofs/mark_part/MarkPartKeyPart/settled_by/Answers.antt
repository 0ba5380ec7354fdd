-- The last interval that holds a tuple at a time is the last one that starts by it.
use Rattle.std.proofs.Common.{◌-◌, ◌≤◌, subst, sym, arith}
use Rattle.stream_base.specs.declared.limits.TheConstants.{FINAL}
use Rattle.context_windows.proofs.OfMarks.{spans_apart, spans_bounded, stretches_settle}
use Rattle.context_windows.proofs.Begun.{begun_bounded, begun_ended, begun_open, is_reached, not_reached}
use Rattle.context_windows.proofs.mark_part.MarkPartKeyPart.settled_by.Goals as goal

pub settled_with-requires-clause-end : goal.settled_with-requires-clause-end
settled_with-requires-clause-end g c =
    let q = c.requires.key in
    subst (λ e. e ≤ FINAL) (sym c.end_of_last_begun.ensures)
    (begun_bounded c.args.time FINAL c.args.self.now.windows.spans (spans_bounded (q.0).marks (q.0).kept c.args.self.now.windows (q.4).stood.follows (q.4).lists.1.mark_times))

pub returns-clause-before : goal.returns-clause-before
returns-clause-before g c = λ water below.
    let d = c.args.defs.now in
    let q = c.requires.key in
    let spans = c.args.self.now.windows.spans in
    let early = not_reached c.settled_with.result c.end_of_last_begun.result c.lateness.result water c.settled_with.ensures.none c.settled_with.ensures.some below in
    begun_open c.args.time (water - d.lateness) spans (spans_apart (q.0).marks (q.0).kept c.args.self.now.windows (q.4).stood.follows) (omega (arith, early, c.end_of_last_begun.ensures, c.lateness.ensures.value))

pub returns-clause-by_then : goal.returns-clause-by_then
returns-clause-by_then g c = λ water reached.
    let d = c.args.defs.now in
    let spans = c.args.self.now.windows.spans in
    let late = is_reached c.settled_with.result c.end_of_last_begun.result c.lateness.result water c.settled_with.ensures.none c.settled_with.ensures.some reached in
    begun_ended c.args.time (water - d.lateness) spans c.requires.within (omega (arith, late, c.end_of_last_begun.ensures, c.lateness.ensures.value))

pub returns-clause-settles : goal.returns-clause-settles
returns-clause-settles g c = λ m n s w water later is at.
    stretches_settle c.args.defs.now c.args.window m n water c.args.self.now.windows (omega (arith, at.water_is, later)) at.held.may_leave at.lists.1.times at.stood
