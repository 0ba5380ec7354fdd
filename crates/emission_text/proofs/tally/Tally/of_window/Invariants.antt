-- The tally is that of the rows so far.
use Rattle.emission_text.proofs.Tallies.{IsTallyUpTo}
use Rattle.emission_text.proofs.tally.Tally.of_window.Given as goal

abbrev pub invariant-loop-row : goal.invariant-loop-row
invariant-loop-row l = IsTallyUpTo l.window l.rows l.row-index l.tally
