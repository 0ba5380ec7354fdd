-- The fold is that of the tuples that the instance selects, which are no more than the store has.
use Rattle.std.proofs.Common.{◌∙◌, ◌<◌, ◌^◌, length, map, ap, arith, sym}
use Rattle.stream_base.specs.declared.kept.Kept.{Kept}
use Rattle.stream_base.specs.Model.Windows.{is_within, within}
use Rattle.agg_store.specs.Stored.{tuples_of}
use Rattle.window_spans.specs.declared.span.Span.{Span}
use Rattle.window_spans.proofs.Parts.{fewer_pass}
use Rattle.window_spans.proofs.telling.standing.Goals as goal

pub returns-clause-value : goal.returns-clause-value
returns-clause-value g c = λ i held.
    let tuples = tuples_of (g.S.AggStore.stored c.args.store.now) in
    let few : length i.chosen < 2 ^ 64 = omega (arith, ap length held.chosen, fewer_pass (is_within i.low i.high) tuples, c.fold-partial.ensures.holds.slices.counted) in
    let value =
    c.fold-partial.ensures.value
    ∙ ap (λ (s : Span). g.M.Partial.of_values (map (λ (x : Kept). x.value) (within s.low s.high tuples))) (sym held.span)
    ∙ ap (λ l. g.M.Partial.of_values (map (λ (x : Kept). x.value) l)) held.chosen in
    let former = c.former.ensures i value few in
    λ j. record { span = sym held.span j; former = former j }
