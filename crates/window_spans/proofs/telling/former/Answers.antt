-- The count of the partial is that of the tuples.
use Rattle.std.proofs.Common.{◌∙◌, length, map}
use Rattle.stream_base.specs.declared.kept.Kept.{Kept}
use Rattle.window_spans.proofs.Counting.{count_shows}
use Rattle.window_spans.proofs.telling.former.Goals as goal

pub returns : goal.returns
returns g c = λ i is few.
    let values = map (λ (x : Kept). x.value) i.chosen in
    let number = c.count_of.ensures (length i.chosen) (c.show.ensures values is ∙ count_shows i.chosen few) few in
    let shown = c.show-2.ensures values is in
    λ j. record { number = number j; shown = shown j }

-- each partial shows its count
pub show-requires : goal.show-requires
show-requires g c = g.met.M.Partial.counts
