-- The mark at the place is the first after the earlier time.
use Rattle.std.proofs.Common.{◌≡◌, ◌∙◌, ◌<◌, ap, arith, length, sym}
use Rattle.std.specs.Prelude.{nat_le, nat_lt}
use Rattle.std.proofs.lemmas.List.{get_or_default}
use Rattle.slice_lists.proofs.PlaceFacts.{first_mark_decides, no_mark}
use Rattle.slice_runs.proofs.marks.Marks.has_between.Goals as goal

pub returns-then-place-len : goal.returns-then-place-len
returns-then-place-len c =
    let marks = c.self.inside.times.items in
    let place = c.up_to-place.result in
    let l : place < length marks = omega arith in
    rw (← c.self.view_is)
    (ap (λ m. nat_le m c.args.high) (c.index.ensures ∙ get_or_default marks place c.index.result.now 0 l)
    ∙ sym (first_mark_decides marks c.args.low c.args.high place c.self.invariant (rw (← c.self.view_is) at c.up_to-place.ensures) l))

pub returns-else-place-len : goal.returns-else-place-len
returns-else-place-len c =
    let marks = c.self.inside.times.items in
    let place = c.up_to-place.result in
    let same : c.len.result ≡ length marks = omega arith in
    rw (← c.self.view_is)
    (ap (nat_lt place) same
    ∙ no_mark marks c.args.low c.args.high place (rw (← c.self.view_is) at c.up_to-place.ensures) (omega arith))
