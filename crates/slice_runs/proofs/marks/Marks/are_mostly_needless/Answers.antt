-- All but one of those up to the time are needless.
use Rattle.std.proofs.Common.{◌≡◌, ◌≤◌, ◌<◌, ◌-◌, arith, length}
use Rattle.std.proofs.lemmas.Bool.{ltb-false, ltb-true}
use Rattle.slice_lists.specs.Touched.{marks_left}
use Rattle.slice_lists.proofs.LeaveFacts.{many_left}
use Rattle.slice_runs.proofs.marks.Marks.are_mostly_needless.Goals as goal

pub returns-clause-few : goal.returns-clause-few
returns-clause-few c = λ no.
    let marks = c.self.inside.times.items in
    let place = rw (← c.self.view_is) at c.up_to.ensures in
    let many : length (marks_left c.args.time marks) ≡ length marks - (c.up_to.result - 1) = many_left marks c.args.time c.up_to.result place c.self.invariant in
    let le : c.saturating_sub-needless.result ≤ c.len.result - c.saturating_sub-needless.result = ltb-false (c.len.result - c.saturating_sub-needless.result) c.saturating_sub-needless.result no in
    rw (← c.self.view_is)
    (omega (arith, many, le, c.saturating_sub-needless.ensures, c.len.ensures, place.within))

pub returns-clause-many : goal.returns-clause-many
returns-clause-many c = λ yes.
    let marks = c.self.inside.times.items in
    let place = rw (← c.self.view_is) at c.up_to.ensures in
    let many : length (marks_left c.args.time marks) ≡ length marks - (c.up_to.result - 1) = many_left marks c.args.time c.up_to.result place c.self.invariant in
    let lt : c.len.result - c.saturating_sub-needless.result < c.saturating_sub-needless.result = ltb-true (c.len.result - c.saturating_sub-needless.result) c.saturating_sub-needless.result yes in
    rw (← c.self.view_is)
    (omega (arith, many, lt, c.saturating_sub-needless.ensures, c.len.ensures, place.within))
