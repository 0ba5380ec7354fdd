-- An interval that the time's tuple brings holds the time, and the first that does is one.
use Rattle.std.proofs.Common.{◌∙◌, ◌+◌, ◌-◌, ◌/◌, ap, sym}
use Rattle.plain_windows.proofs.SpanFacts.{holds_time, span_brought, span_put, span_stays}
use Rattle.plain_windows.proofs.spans.bound_holding.Goals as goal

pub returns-clause-none_below : goal.returns-clause-none_below
returns-clause-none_below c kept x i at d =
    span_put c.args.spacing.length c.args.spacing.slide c.args.spacing.within.2 c.args.spacing.within.3 kept x _
    (ap (λ n. n / c.args.spacing.slide) c.saturating_sub.ensures ∙ ap (λ t. (t + c.args.spacing.slide - c.args.spacing.length) / c.args.spacing.slide) (sym at)) i d

pub returns-clause-later : goal.returns-clause-later
returns-clause-later c = (holds_time c.args.spacing.length c.args.spacing.slide c.args.spacing.within.2 c.args.spacing.within.3 c.args.at.time _ (ap (λ n. n / c.args.spacing.slide) c.saturating_sub.ensures)).1

pub returns-clause-brought : goal.returns-clause-brought
returns-clause-brought c kept x at =
    span_brought c.args.spacing.length c.args.spacing.slide c.args.spacing.within.2 c.args.spacing.within.3 kept x _
    (ap (λ n. n / c.args.spacing.slide) c.saturating_sub.ensures ∙ ap (λ t. (t + c.args.spacing.slide - c.args.spacing.length) / c.args.spacing.slide) (sym at))

pub returns-clause-stay : goal.returns-clause-stay
returns-clause-stay c kept x i d = span_stays c.args.spacing.length c.args.spacing.slide c.args.spacing.within.2 c.args.spacing.within.3 kept x i d
