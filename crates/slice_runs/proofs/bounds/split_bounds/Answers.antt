-- The first takes the place, and the second stands behind it.
use Rattle.std.proofs.Common.{◌≡◌, ◌∙◌, ◌+◌, arith, rules, set}
use Rattle.std.specs.Prelude.{insert}
use Rattle.slice_lists.proofs.SplitFacts.{two_for_one}
use Rattle.slice_runs.proofs.bounds.split_bounds.Goals as goal

pub returns-clause-items : goal.returns-clause-items
returns-clause-items c =
    let put : c.insert.new.self.items ≡ insert (set c.args.bounds.now.items c.args.at c.args.front) (c.args.at + 1) c.args.back = search rules in
    put ∙ two_for_one c.args.bounds.now.items c.args.at c.args.front c.args.back (omega (arith, c.requires.within))
