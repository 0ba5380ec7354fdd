-- The first key of a full row is the least one there, and isn't the key.
use Rattle.std.proofs.Common.{◌+◌, arith, sym}
use Rattle.partials.proofs.RowFacts.{above_other, first_is_other, from_first}
use Rattle.partials.proofs.partials.is_near.Goals as goal

pub returns-in-Some-clause-before : goal.returns-in-Some-clause-before
returns-in-Some-clause-before g c =
    let pairs = c.args.near.now.pairs in
    let low = c.in-Some.first in
    λ h. from_first (c.args.key + 1) low pairs c.in-Some.ensures.rising (sym c.in-Some.ensures.least)
    (omega (arith, above_other c.args.key low h (first_is_other c.args.key low pairs (sym c.in-Some.ensures.least) c.requires.absent)))

pub returns-in-Some-clause-within : goal.returns-in-Some-clause-within
returns-in-Some-clause-within g c =
    let low = c.in-Some.first in
    λ h. omega (arith, above_other c.args.key low h (first_is_other c.args.key low c.args.near.now.pairs (sym c.in-Some.ensures.least) c.requires.absent))
