-- From the last tuple on there is one slice.
use Rattle.std.proofs.Common.{◌≡◌, ◌-◌, ◌≤◌, length, drop, arith}
use Rattle.std.proofs.lemmas.Bool.Decides.{nat_tests}
use Rattle.stream_base.specs.declared.kept.Kept.{Kept}
use Rattle.stream_base.specs.Model.Cuts.{has_cut}
use Rattle.stream_base.specs.Model.Slices.{runs_of}
use Rattle.plain_windows.proofs.Neighbours.{last_piece}
use Rattle.plain_windows.proofs.PlaceFacts.{some_tuple}
use Rattle.plain_windows.proofs.slices.count_slices.Goals as goal

pub returns : goal.returns
returns c =
    let windows = c.args.defs.now.windows in
    let marks = c.args.view.now.marks in
    let kept = c.kept_from-kept.result.now in
    let some : 1 ≤ length kept = grind (arith, nat_tests, c.is_empty.ensures, c.if-is_empty.false) in
    let one : length (runs_of windows marks (drop (c.loop-place.place - 1) kept)) ≡ 1 = last_piece (λ (x y : Kept). has_cut windows marks x.time y.time) kept (c.loop-place.place - 1) some_tuple (omega arith) in
    rw (← c.kept_from-kept.ensures) (omega (arith, one, c.loop-place.invariant.all))
