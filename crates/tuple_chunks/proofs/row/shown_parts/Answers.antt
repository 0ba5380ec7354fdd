-- One part more shows behind those so far.
use Rattle.std.proofs.Common.{◌∙◌, ap, arith, get_or, length, sym, take}
use Rattle.std.specs.List.{flat_map}
use Rattle.stream_base.specs.Model.Windows.{within}
use Rattle.tuple_chunks.specs.Sums.{number_in, shown_joined, shown_of}
use Rattle.tuple_chunks.proofs.RowFacts.{ranges_within, within_taken}
use Rattle.tuple_chunks.proofs.SumFacts.{both_shown, shown_number}
use Rattle.tuple_chunks.proofs.row.shown_parts.Goals as goal

pub shown_together-shown-requires : goal.shown_together-shown-requires
shown_together-shown-requires g c =
    let f = g.P.Part.tuples in
    let parts = c.args.parts.now in
    let i = c.loop-part.part-index in
    let low = c.args.low in
    let high = c.args.high in
    let x = c.part-item.result in
    let before = ap number_in c.loop-part.invariant ∙ shown_number (within low high (flat_map f (take i parts))) in
    let own = ap number_in c.shown.ensures ∙ shown_number (within low high (f x)) ∙ ap (λ p. length (within low high (f p))) c.part-item.is in
    omega (arith, before, own, ranges_within f g.P.Part.spare low high parts i x (omega arith), c.requires)

pub loop-part-preserved : goal.loop-part-preserved
loop-part-preserved g c =
    let f = g.P.Part.tuples in
    let parts = c.args.parts.now in
    let i = c.loop-part.part-index in
    let low = c.args.low in
    let high = c.args.high in
    let x = c.part-item.result in
    c.shown_together-shown.ensures
    ∙ ap (λ s. shown_joined s c.shown.result) c.loop-part.invariant
    ∙ ap (shown_joined (shown_of (within low high (flat_map f (take i parts))))) (c.shown.ensures ∙ ap (λ p. shown_of (within low high (f p))) c.part-item.is)
    ∙ both_shown (within low high (flat_map f (take i parts))) (within low high (f (get_or parts i x)))
    ∙ ap shown_of (sym (within_taken f g.P.Part.spare low high parts i x (omega arith)))
