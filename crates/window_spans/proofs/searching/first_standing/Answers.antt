-- Where the first doesn't stand, no later one does.
use Rattle.std.proofs.Common.{◌∙◌, ◌++◌}
use Rattle.std.specs.Prelude.{option_to_list}
use Rattle.window_spans.proofs.Searches.{two_standing}
use Rattle.window_spans.proofs.searching.first_standing.Goals as goal

pub returns : goal.returns
returns c =
    (λ i. option_to_list (c.standing_at.ensures i) ++ option_to_list (c.standing_at-2.ensures i))
    ∙ two_standing c.args.water c.args.near.now c.requires
