-- The other text ends there.
use Rattle.std.proofs.Common.{◌≡◌, ◌≤◌, ◌+◌, length, drop, arith}
use Rattle.std.proofs.lemmas.Bool.Decides.{nat_tests}
use Rattle.report_check.specs.Apart.{common_front}
use Rattle.report_check.proofs.Parting.{ends}
use Rattle.report_check.proofs.apart.common_len.Goals as goal

pub returns-else-count-other-clause-value : goal.returns-else-count-other-clause-value
returns-else-count-other-clause-value c =
    let all : c.loop-count.count + length (common_front (drop c.loop-count.count c.args.text.now) (drop c.loop-count.count c.args.other.now)) ≡ length (common_front c.args.text.now c.args.other.now) = c.loop-count.invariant.all in
    let ended : length c.args.other.now ≤ c.loop-count.count = grind (arith, nat_tests) in
    let none : length (common_front (drop c.loop-count.count c.args.text.now) (drop c.loop-count.count c.args.other.now)) ≡ 0 = ends c.args.text.now c.args.other.now c.loop-count.count ended in
    omega arith
