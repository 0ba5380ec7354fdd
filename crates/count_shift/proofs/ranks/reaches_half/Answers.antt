-- Where the middle tuple comes behind the time no more than half lie at or before it.
use Rattle.std.proofs.Common.{◌≡◌, ◌/◌, get_or, length, rules}
use Rattle.count_shift.proofs.Upper.{half_at_most}
use Rattle.count_shift.proofs.ranks.reaches_half.Goals as goal

pub returns-in-Some : goal.returns-in-Some
returns-in-Some c = λ late.
    let items = c.args.items.now in
    let middle : c.in-Some.x.now ≡ get_or items (length items / 2) c.in-Some.x.now = search rules in
    half_at_most items c.args.time c.in-Some.x.now c.requires middle late
