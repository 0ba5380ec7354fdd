-- An interval ends after the watermark where it starts less than its length before it.
use Rattle.std.proofs.Common.{◌∙◌, sym}
use Rattle.plain_windows.proofs.SpanFacts.{span_above}
use Rattle.plain_windows.proofs.spans.first_above.Goals as goal

pub returns : goal.returns
returns c = record {
  found = c.first_from.ensures.found ∙ sym (span_above c.args.spacing.length c.args.spacing.slide c.args.spacing.within.2 c.args.spacing.within.3 c.args.view.now.kept c.args.water c.saturating_sub.result c.saturating_sub.ensures);
  inside = c.first_from.ensures.inside;
}
