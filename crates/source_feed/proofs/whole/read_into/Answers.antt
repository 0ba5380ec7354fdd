-- A read that fails after others.
use Rattle.std.proofs.Common.{arith}
use Rattle.std.proofs.lemmas.Grind.{common_steps}
use Rattle.source_feed.proofs.whole.read_into.Goals as goal

pub returns-in_err-given-clause-on : goal.returns-in_err-given-clause-on
returns-in_err-given-clause-on g c = record {
  place = grind (arith, common_steps);
  more = (g.B.Store.held c.pieces.store);
  given = grind (arith, common_steps);
  never_falls = grind (arith, common_steps);
}
