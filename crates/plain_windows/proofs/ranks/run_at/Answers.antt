-- The last tuple of the run is the one before its end.
use Rattle.std.proofs.Common.{◌≡◌, ◌+◌, ◌*◌, take, drop, sym, arith}
use Rattle.plain_windows.proofs.PlaceFacts.{some_tuple}
use Rattle.plain_windows.proofs.RankFacts.{bound_of_run}
use Rattle.plain_windows.proofs.ranks.run_at.Goals as goal

pub returns-clause-is : goal.returns-clause-is
returns-clause-is c =
    let count = c.args.count in
    let kept = c.args.kept.now in
    let place = c.args.place in
    let high : place * count + count ≡ (place + 1) * count = omega arith in
    let bound = bound_of_run count c.requires.some kept place some_tuple c.requires.there in
    λ i. record { low = place * count; high = high i; bound = sym bound i; chosen = take count (drop (place * count) kept) }
