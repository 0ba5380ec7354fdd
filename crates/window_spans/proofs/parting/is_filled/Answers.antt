-- The first slice from the start of the span on tells.
use Rattle.std.proofs.Common.{◌∙◌, ap, sym}
use Rattle.window_spans.proofs.Filled.{begins_by, filled_is}
use Rattle.window_spans.proofs.parting.is_filled.Goals as goal

pub returns-in-Some : goal.returns-in-Some
returns-in-Some g c =
    ap (begins_by c.args.span.high) (sym c.in-Some.is ∙ c.slice_from.ensures.first) ∙ filled_is c.args.span.low c.args.span.high (g.S.AggStore.stored c.args.store.now).slices c.slice_from.ensures.holds.slices.ordered c.requires

pub returns-in-None : goal.returns-in-None
returns-in-None g c =
    ap (begins_by c.args.span.high) (sym c.in-None.is ∙ c.slice_from.ensures.first) ∙ filled_is c.args.span.low c.args.span.high (g.S.AggStore.stored c.args.store.now).slices c.slice_from.ensures.holds.slices.ordered c.requires
