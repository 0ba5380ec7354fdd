-- The run grows to the front until two neighbours lie the gap or more apart.
use Rattle.std.proofs.Common.{◌∙◌, ◌-◌, sym, arith, drop}
use Rattle.plain_windows.specs.Runs.{is_apart, runs_of}
use Rattle.plain_windows.proofs.PlaceFacts.{some_tuple}
use Rattle.plain_windows.proofs.PieceFacts.{piece_before, pieces_around}
use Rattle.plain_windows.proofs.sessions.start_of.Goals as goal

pub returns-then-are_apart-clause-run : goal.returns-then-are_apart-clause-run
returns-then-are_apart-clause-run c =
    pieces_around (is_apart c.args.gap) c.args.kept.now c.loop-first.first c.args.end some_tuple (omega arith) (omega arith)
    (sym c.are_apart.ensures ∙ c.if-are_apart.true) c.loop-first.invariant.1

pub loop-first-preserved : goal.loop-first-preserved
loop-first-preserved c = (
  omega arith,
  piece_before (is_apart c.args.gap) c.args.kept.now (c.loop-first.first - 1) c.loop-first.first c.args.end some_tuple (runs_of c.args.gap (drop c.args.end c.args.kept.now)) (omega arith) (omega arith) (omega arith)
      (sym c.are_apart.ensures ∙ c.if-are_apart.false) c.loop-first.invariant.1,
)
