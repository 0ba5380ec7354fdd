-- The run ends before the first tuple that lies the gap or more behind its neighbour.
use Rattle.std.proofs.Common.{◌∙◌, length, sym, arith}
use Rattle.plain_windows.specs.Runs.{is_apart}
use Rattle.plain_windows.proofs.PlaceFacts.{some_tuple}
use Rattle.plain_windows.proofs.PieceFacts.{piece_between}
use Rattle.plain_windows.proofs.sessions.end_of.Goals as goal

pub returns-then-are_apart : goal.returns-then-are_apart
returns-then-are_apart c = record {
  behind = omega arith;
  within = omega arith;
  run = piece_between (is_apart c.args.gap) c.args.kept.now c.args.first c.loop-end.end some_tuple (omega arith) (omega arith) c.loop-end.invariant
      (λ l. sym c.are_apart.ensures ∙ c.if-are_apart.true);
}

pub returns : goal.returns
returns c = record {
  behind = omega arith;
  within = omega arith;
  run = piece_between (is_apart c.args.gap) c.args.kept.now c.args.first (length c.args.kept.now) some_tuple (omega arith) (omega arith)
      (λ k d low high. c.loop-end.invariant k d low (omega arith)) (λ l. absurd (omega arith));
}
