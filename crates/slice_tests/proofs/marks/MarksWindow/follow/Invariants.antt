-- After each step the intervals are those of the tuples and marks in the store.
use Rattle.std.proofs.Common.{◌≡◌}
use Rattle.slice_tests.specs.Together.{AreOfMarks, HaveCome}
use Rattle.slice_tests.proofs.marks.MarksWindow.follow.Given as goal

abbrev pub invariant-loop-k : goal.invariant-loop-k
invariant-loop-k g l = record {
  together : AreOfMarks l.self.defs l.self.store l.self.between;
  few : HaveCome l.k-counter l.self.store;
  known : l.self.between.forgotten ≡ l.self.forgotten;
}
