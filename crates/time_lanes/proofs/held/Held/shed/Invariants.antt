-- So many are let go so far.
use Rattle.std.proofs.Common.{◌≡◌, ◌≤◌, ◌+◌, drop}
use Rattle.time_lanes.proofs.held.Held.shed.Given as goal

abbrev pub invariant-loop-k : goal.invariant-loop-k
invariant-loop-k g l = record {
  partials : l.self.partials ≡ drop l._k l.initial.self.partials;
  to : l.self.to ≡ l.initial.self.to;
  spare : l.initial.self.spare ≤ l.self.spare;
  cost : l.steps + l.self.credit ≤ l.initial.steps + l.initial.self.credit;
}
