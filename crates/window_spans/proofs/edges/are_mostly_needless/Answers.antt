-- All but one of those up to the time are needless.
use Rattle.std.proofs.Common.{◌≡◌, ◌≤◌, ◌<◌, ◌-◌, arith, length}
use Rattle.std.proofs.lemmas.Bool.{ltb-false, ltb-true}
use Rattle.slice_lists.specs.Touched.{marks_left}
use Rattle.slice_lists.proofs.LeaveFacts.{many_left}
use Rattle.slice_lists.proofs.PlaceFacts.{marks_do_not_fall}
use Rattle.window_spans.proofs.edges.are_mostly_needless.Goals as goal

pub marks_up_to-requires : goal.marks_up_to-requires
marks_up_to-requires c = marks_do_not_fall c.args.marks.now c.requires.rising

pub returns-clause-few : goal.returns-clause-few
returns-clause-few c = λ no.
    let marks = c.args.marks.now in
    let place = c.marks_up_to.ensures in
    let many : length (marks_left c.args.time marks) ≡ length marks - (c.marks_up_to.result - 1) = many_left marks c.args.time c.marks_up_to.result place c.requires.rising in
    let le : c.saturating_sub-needless.result ≤ length c.args.marks.now - c.saturating_sub-needless.result = ltb-false (length c.args.marks.now - c.saturating_sub-needless.result) c.saturating_sub-needless.result no in
    omega (arith, many, le, c.saturating_sub-needless.ensures, place.within)

pub returns-clause-many : goal.returns-clause-many
returns-clause-many c = λ yes.
    let marks = c.args.marks.now in
    let place = c.marks_up_to.ensures in
    let many : length (marks_left c.args.time marks) ≡ length marks - (c.marks_up_to.result - 1) = many_left marks c.args.time c.marks_up_to.result place c.requires.rising in
    let lt : length c.args.marks.now - c.saturating_sub-needless.result < c.saturating_sub-needless.result = ltb-true (length c.args.marks.now - c.saturating_sub-needless.result) c.saturating_sub-needless.result yes in
    omega (arith, many, lt, c.saturating_sub-needless.ensures, place.within)
