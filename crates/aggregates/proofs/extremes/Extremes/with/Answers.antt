-- The least and the greatest of both.
use Rattle.std.proofs.Common.{◌≡◌, ◌∙◌, rules, w64, to_z, of_z}
use Rattle.std.specs.Int.{int_max, int_min}
use Rattle.stream_base.specs.Model.Functions.{either_or}
use Rattle.aggregates.proofs.RangeFacts.{are_extremes, range_of_both}
use Rattle.aggregates.proofs.extremes.Extremes.with.Goals as goal

pub invariant_of-result : goal.invariant_of-result
invariant_of-result c =
    let low : to_z w64 (of_z w64 c.min.result) ≡ int_min c.self.inside.least c.right.inside.least = search rules in
    let high : to_z w64 (of_z w64 c.max.result) ≡ int_max c.self.inside.most c.right.inside.most = search rules in
    are_extremes c.self.inside c.right.inside c.self.invariant c.right.invariant _ low high

pub returns : goal.returns
returns c =
    let low : to_z w64 (of_z w64 c.min.result) ≡ int_min c.self.inside.least c.right.inside.least = search rules in
    let high : to_z w64 (of_z w64 c.max.result) ≡ int_max c.self.inside.most c.right.inside.most = search rules in
    range_of_both c.self.inside c.right.inside c.self.invariant c.right.invariant _ low high
    ∙ (λ i. (either_or int_min ((c.self.view_is i).0) ((c.right.view_is i).0), either_or int_max ((c.self.view_is i).1) ((c.right.view_is i).1)))
