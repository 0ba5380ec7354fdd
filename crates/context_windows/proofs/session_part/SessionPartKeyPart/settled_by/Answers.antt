-- The last session that holds a tuple at a time is the last one that starts by it.
use Rattle.std.proofs.Common.{◌+◌, ◌-◌, ◌≤◌, subst, sym, arith}
use Rattle.stream_base.specs.declared.limits.TheConstants.{TIME_MAX}
use Rattle.key_parts.specs.Calls.{window_at}
use Rattle.context_windows.specs.Spanned.{gap_at}
use Rattle.context_windows.proofs.Following.{gap_some}
use Rattle.context_windows.proofs.Begun.{begun_bounded, begun_ended, begun_open, is_reached, not_reached}
use Rattle.context_windows.proofs.SessionSettling.{gap_few, sessions_settle, spans_apart, spans_bounded}
use Rattle.context_windows.proofs.session_part.SessionPartKeyPart.settled_by.Goals as goal

pub settled_with-requires-clause-end : goal.settled_with-requires-clause-end
settled_with-requires-clause-end g c =
    let d = c.args.defs.now in
    let q = c.requires.key in
    let kind = (window_at d c.args.window).kind in
    let some = gap_some kind (q.4).stood.session.session in
    let gap : gap_at d c.args.window ≤ TIME_MAX = gap_few kind (q.4).stood.session.session in
    let most : c.end_of_last_begun.result ≤ TIME_MAX + gap_at d c.args.window =
    subst (λ e. e ≤ TIME_MAX + gap_at d c.args.window) (sym c.end_of_last_begun.ensures)
    (begun_bounded c.args.time (TIME_MAX + gap_at d c.args.window) c.args.self.now.sessions.spans (spans_bounded (gap_at d c.args.window) TIME_MAX (q.0).kept c.args.self.now.sessions some (q.4).lists.1.times (q.4).stood.follows)) in
    omega (arith, most, gap)

pub returns-clause-before : goal.returns-clause-before
returns-clause-before g c = λ water below.
    let d = c.args.defs.now in
    let q = c.requires.key in
    let spans = c.args.self.now.sessions.spans in
    let early = not_reached c.settled_with.result c.end_of_last_begun.result c.lateness.result water c.settled_with.ensures.none c.settled_with.ensures.some below in
    begun_open c.args.time (water - d.lateness) spans (spans_apart (gap_at d c.args.window) (q.0).kept c.args.self.now.sessions (gap_some (window_at d c.args.window).kind (q.4).stood.session.session) (q.4).stood.follows) (omega (arith, early, c.end_of_last_begun.ensures, c.lateness.ensures.value))

pub returns-clause-by_then : goal.returns-clause-by_then
returns-clause-by_then g c = λ water reached.
    let d = c.args.defs.now in
    let spans = c.args.self.now.sessions.spans in
    let late = is_reached c.settled_with.result c.end_of_last_begun.result c.lateness.result water c.settled_with.ensures.none c.settled_with.ensures.some reached in
    begun_ended c.args.time (water - d.lateness) spans c.requires.within (omega (arith, late, c.end_of_last_begun.ensures, c.lateness.ensures.value))

pub returns-clause-settles : goal.returns-clause-settles
returns-clause-settles g c = λ m n s w water later is at.
    sessions_settle c.args.defs.now c.args.window m n water c.args.self.now.sessions (omega (arith, at.water_is, later)) at.held.may_leave at.lists.1.times at.stood
