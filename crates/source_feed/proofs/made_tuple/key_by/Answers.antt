use Rattle.std.proofs.Common.{◌≤◌, ◌<◌, ◌/◌, ◌%◌, arith, refl}
use Rattle.std.proofs.lemmas.Fmt.{decimal_digit}
use Rattle.source_feed.proofs.Dealing.{two_digits}
use Rattle.source_feed.proofs.made_tuple.key_by.Goals as goal

pub returns-then-number-lt10 : goal.returns-then-number-lt10
returns-then-number-lt10 c =
    let low : c.args.drawn / 32768 % 100 < 10 = omega arith in
    rw (c.key_of.ensures, decimal_digit (c.args.drawn / 32768 % 100) low) refl

pub returns : goal.returns
returns c =
    let low : 10 ≤ c.args.drawn / 32768 % 100 = omega arith in
    rw (c.key_of-2.ensures, two_digits (c.args.drawn / 32768 % 100) low (omega arith)) refl
