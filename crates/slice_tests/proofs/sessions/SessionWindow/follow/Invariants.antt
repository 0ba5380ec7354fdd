-- After each step the sessions are those of the tuples in the store.
use Rattle.std.proofs.Common.{◌≡◌}
use Rattle.slice_tests.specs.Together.{AreOfSessions}
use Rattle.slice_tests.proofs.sessions.SessionWindow.follow.Given as goal

abbrev pub invariant-loop-k : goal.invariant-loop-k
invariant-loop-k g l = record {
  together : AreOfSessions l.self.defs l.self.store l.self.sessions;
  known : l.self.sessions.forgotten ≡ l.self.forgotten;
}
