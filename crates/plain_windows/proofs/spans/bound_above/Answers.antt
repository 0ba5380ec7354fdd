-- An interval ends after the watermark where it starts less than its length before it.
use Rattle.std.proofs.Common.{◌∙◌, ap, sym}
use Rattle.std.specs.Option.{option_map}
use Rattle.stream_base.specs.Model.Windows.{Instance}
use Rattle.plain_windows.proofs.SpanFacts.{span_above}
use Rattle.plain_windows.proofs.spans.bound_above.Goals as goal

pub returns-in_err-low : goal.returns-in_err-low
returns-in_err-low c =
    let above = span_above c.args.spacing.length c.args.spacing.slide c.args.spacing.within.2 c.args.spacing.within.3 c.args.view.now.kept c.args.water c.saturating_sub.result c.saturating_sub.ensures in
    c.from_residual.ensures ∙ ap (option_map (λ (i : Instance). i.bound)) (c.in_err-low.ensures.found ∙ sym above)

pub returns : goal.returns
returns c =
    let above = span_above c.args.spacing.length c.args.spacing.slide c.args.spacing.within.2 c.args.spacing.within.3 c.args.view.now.kept c.args.water c.saturating_sub.result c.saturating_sub.ensures in
    ap (option_map (λ (i : Instance). i.bound)) (c.in_ok-low.ensures.found ∙ sym above)
