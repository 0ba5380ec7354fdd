-- The intervals that are left are those that are not forgotten.
use Rattle.agg_store.specs.Stored.{tuples_of}
use Rattle.slice_tests.proofs.marks.MarksWindow.drop_settled.Goals as goal

pub returns-clause-together : goal.returns-clause-together
returns-clause-together g c = record {
  sliced = c.requires.sliced;
  follows = c.drop_settled.ensures.follows c.args.self.now.store.marks (tuples_of c.args.self.now.store) c.requires.follows;
}
