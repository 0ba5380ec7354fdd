-- The mean is the sum and the count.
use Rattle.std.proofs.Common.{◌≡◌, ◌∙◌, ap, sym, rules, to_z, of_z}
use Rattle.std.specs.Int.{w128}
use Rattle.stream_base.specs.declared.shown.Shown.TheVariants.{Ratio}
use Rattle.stream_base.specs.Model.Functions.{averaging, shown_of}
use Rattle.aggregates.proofs.Means.{mean_is}
use Rattle.aggregates.proofs.summary.SummaryPartial.show.Goals as goal

pub returns-in-Mean : goal.returns-in-Mean
returns-in-Mean c values is =
    let sum : to_z w128 (of_z w128 c.get-in-Mean.result) ≡ c.args.self.now.summed = search rules in
    let count : c.self.inside.count.count ≡ c.args.self.now.count = search rules in
    (λ i. Ratio ((sum ∙ ap (λ s. s.summed) is) i) ((count ∙ ap (λ s. s.count) is) i))
    ∙ ap averaging.show (sym (mean_is values)) ∙ ap (λ f. shown_of f values) (sym c.in-Mean.is)
