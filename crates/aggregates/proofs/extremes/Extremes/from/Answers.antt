-- Of the same values there are both or neither, and the greatest isn't below the least.
use Rattle.std.proofs.Common.{◌≡◌, ◌∙◌, sym, rules, true}
use Rattle.std.specs.Prelude.{int_lt}
use Rattle.std.proofs.lemmas.Bool.{false≢true}
use Rattle.aggregates.proofs.RangeFolds.{most_not_below, no_least, no_most}
use Rattle.aggregates.proofs.extremes.Extremes.from.Goals as goal

pub returns-in_default : goal.returns-in_default
returns-in_default c values low high = c.none.ensures ∙ no_least values (sym c.in_default.is ∙ low)

pub returns-in_default-high : goal.returns-in_default-high
returns-in_default-high c values low high = c.none-in_default-high.ensures ∙ no_most values (sym c.in_default-high.is ∙ high)

pub returns-then-most-least : goal.returns-then-most-least
returns-then-most-least c values low high =
    let below : int_lt c.in-Some-high.most c.in-Some.least ≡ true = search rules in
    absurd (false≢true (sym (most_not_below values c.in-Some.least c.in-Some-high.most (sym c.in-Some.is ∙ low) (sym c.in-Some-high.is ∙ high)) ∙ below))
