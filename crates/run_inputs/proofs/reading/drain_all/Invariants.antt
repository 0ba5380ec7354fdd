-- The first feeds were read to their ends, and those behind them weren't touched.
use Rattle.report_check.specs.Findings.{lists_of}
use Rattle.run_inputs.specs.Reading.{AreEntriesFrom}
use Rattle.run_inputs.proofs.Draining.{AreDraining}
use Rattle.run_inputs.proofs.reading.drain_all.Given as goal

abbrev pub invariant-loop-i : goal.invariant-loop-i
invariant-loop-i g l = record {
  draining : AreDraining g.S.Source.reads g.S.Source.told l.initial.feeds.items l.feeds.items (lists_of l.all.items) l.i;
  entries : AreEntriesFrom l.initial.feeds.items (lists_of l.all.items);
}
