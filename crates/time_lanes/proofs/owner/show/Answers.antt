-- The count and the value are those of its tuples.
use Rattle.std.proofs.Common.{◌∙◌, length}
use Rattle.stream_base.specs.Model.Windows.{within}
use Rattle.slice_lists.specs.Slices.{values_of}
use Rattle.time_lanes.proofs.Counts.{count_shows, few_within}
use Rattle.time_lanes.proofs.owner.show.Goals as goal

pub returns : goal.returns
returns g c = λ kept low high e few.
    let values = values_of (within low high kept) in
    let number = c.count_of.ensures (length (within low high kept)) (c.show.ensures values e ∙ count_shows low high kept few) (few_within low high kept few) in
    let shown = c.show-2.ensures values e in
    λ i. record { number = number i; shown = shown i }

-- each partial shows its count
pub show-requires : goal.show-requires
show-requires g c = g.met.M.Partial.counts
