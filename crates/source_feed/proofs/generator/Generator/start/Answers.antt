use Rattle.std.proofs.Common.{◌≡◌, ◌-◌, [], arith, refl, ap}
use Rattle.source_feed.specs.Generated.{dealt, state_after, told_of_indices}
use Rattle.source_feed.specs.Generating.{left_of}
use Rattle.source_feed.proofs.generator.Generator.start.Goals as goal

pub returns-clause-course : goal.returns-clause-course
unfolding state_after
returns-clause-course c = record {
  some_source = c.requires.some_source;
  few = c.requires.few;
  within = omega arith;
  state = refl;
  tuples = refl;
  greatest = refl;
  early = omega arith;
}

pub returns-clause-left : goal.returns-clause-left
unfolding left_of
returns-clause-left c = let none : c.args.rows - 0 ≡ c.args.rows = omega arith in ap (λ n. told_of_indices c.args.seed [] (dealt c.args.sources c.args.source 0 n)) none
