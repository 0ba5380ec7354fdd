-- The tally so far, with the sources that are left, is that of all.
use Rattle.std.proofs.Common.{◌≡◌, drop}
use Rattle.watermark_table.specs.Tallies.{tallied}
use Rattle.watermark_table.proofs.tally.Tally.with_all.Given as goal

abbrev pub invariant-loop-standing : goal.invariant-loop-standing
invariant-loop-standing l = tallied l.tally (drop l.standing-index l.standings) ≡ tallied l.fn.self l.standings
