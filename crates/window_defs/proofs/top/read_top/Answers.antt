-- The windows that were read, and the three numbers, pass no limit.
use Rattle.std.proofs.Common.{◌≡◌, ◌≤◌, map, length, arith}
use Rattle.std.proofs.lemmas.List.{length-map}
use Rattle.std.proofs.lemmas.Option.{MatchOption-at_some}
use Rattle.stream_base.specs.declared.limits.TheConstants.{TIME_MAX, EVERY_MAX}
use Rattle.std.proofs.lemmas.Bool.Decides.{nat_tests}
use Rattle.toml.specs.View.{view}
use Rattle.window_defs.proofs.WindowFacts.{no_fault}
use Rattle.window_defs.proofs.top.read_top.Goals as goal

pub definitions-requires : goal.definitions-requires
definitions-requires c =
    let elements = c.in_ok-elements.elements.now in
    let as_many : length (map view elements) ≡ length elements = length-map elements view in
    let some : 1 ≤ length elements = grind (arith, nat_tests, c.if-is_empty.false, c.is_empty.ensures) in
    let few : length elements ≤ 32 = omega (arith, c.if-elements-gt-WINDOWS_MAX.false) in
    no_fault (map view elements) c.in_ok-windows.windows.items _ _ _ c.in_ok-windows.ensures
    (omega (arith, as_many, some)) (omega (arith, as_many, few))
    (MatchOption-at_some _ (λ n. n ≤ TIME_MAX) _ c.in_ok-lateness-2.ensures.ok_part c.number_up_to.ensures.fits)
    (MatchOption-at_some _ (λ n. n ≤ EVERY_MAX) _ c.in_ok-every-2.ensures.ok_part c.number_up_to-2.ensures.fits)
    (MatchOption-at_some _ (λ n. n ≤ TIME_MAX) _ c.in_ok-disorder-2.ensures.ok_part c.number_up_to-3.ensures.fits)
