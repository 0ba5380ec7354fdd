-- The tuples of whole instances at or before the time are taken off the front.
use Rattle.std.proofs.Common.{◌≡◌, ◌∙◌, ◌+◌, ◌-◌, ◌*◌, ◌/◌, ap, arith, drop, length, rules, take}
use Rattle.std.proofs.Math.Nat.{div-mul-le_self}
use Rattle.count_shift.specs.Counting.{upper}
use Rattle.count_shift.specs.Lane.{Laned}
use Rattle.count_shift.proofs.Behind.{few_without, follows_without, rotated}
use Rattle.count_shift.proofs.Upper.{parts_at_upper}
use Rattle.count_shift.proofs.count_lane.CountLane.drop_settled.Goals as goal

pub returns-then-left-settled-clause-follows : goal.returns-then-left-settled-clause-follows
returns-then-left-settled-clause-follows c = λ kept f.
    let items = c.self.inside.items.items in
    let s = c.upper.result / c.args.count * c.args.count in
    let value : c.upper.result ≡ upper items c.args.time = search rules in
    let len : c.len-many.result ≡ length items = search rules in
    let is : items ≡ c.args.self.now.kept = ap (λ (l : Laned). l.kept) c.self.view_is in
    let stay : c.truncate.new.self.items ≡ drop (c.upper.result / c.args.count * c.args.count) items =
    c.truncate.ensures.items
    ∙ (λ j. take (len j - s) (c.rotate_left.ensures.items j))
    ∙ rotated s items (omega (arith, value, (parts_at_upper items c.args.time c.self.invariant.ordered).within, div-mul-le_self c.upper.result c.args.count)) in
    let same : c.upper.result / c.args.count * c.args.count ≡ upper c.args.self.now.kept c.args.time / c.args.count * c.args.count = ap (λ u. u / c.args.count * c.args.count) (value ∙ ap (λ l. upper l c.args.time) is) in
    follows_without c.args.count c.args.time kept c.args.self.now _ c.requires.0 f
    (λ j. ap (λ (l : Laned). l.gone) c.self.view_is j + same j)
    (stay ∙ (λ j. drop (same j) (is j)))

pub returns-then-left-settled-clause-few : goal.returns-then-left-settled-clause-few
returns-then-left-settled-clause-few c =
    let items = c.self.inside.items.items in
    let s = c.upper.result / c.args.count * c.args.count in
    let value : c.upper.result ≡ upper items c.args.time = search rules in
    let len : c.len-many.result ≡ length items = search rules in
    let stay : c.truncate.new.self.items ≡ drop (c.upper.result / c.args.count * c.args.count) items =
    c.truncate.ensures.items
    ∙ (λ j. take (len j - s) (c.rotate_left.ensures.items j))
    ∙ rotated s items (omega (arith, value, (parts_at_upper items c.args.time c.self.invariant.ordered).within, div-mul-le_self c.upper.result c.args.count)) in
    omega (arith, few_without c.args.count c.args.time items c.truncate.new.self.items c.requires.0 c.self.invariant.ordered (stay ∙ ap (λ u. drop (u / c.args.count * c.args.count) items) value))
