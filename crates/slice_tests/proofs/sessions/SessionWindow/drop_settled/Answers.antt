-- The sessions that are left are those that are not forgotten.
use Rattle.agg_store.specs.Stored.{tuples_of}
use Rattle.context_windows.specs.Spanned.{gap_at}
use Rattle.slice_tests.proofs.sessions.SessionWindow.drop_settled.Goals as goal

pub returns-clause-together : goal.returns-clause-together
returns-clause-together g c = record {
  session = c.requires.session;
  sliced = c.requires.sliced;
  follows = c.drop_settled.ensures.follows (gap_at c.args.self.now.defs 0) (tuples_of c.args.self.now.store) c.requires.follows;
}
