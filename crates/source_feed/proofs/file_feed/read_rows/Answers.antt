-- Nothing is given yet, and all is left.
use Rattle.std.proofs.Common.{arith, inr, refl}
use Rattle.std.proofs.lemmas.Grind.{common_steps}
use Rattle.source_feed.specs.Events.{stream_of}
use Rattle.source_feed.proofs.file_feed.read_rows.Goals as goal

pub returns-in-Ok-clause-rows : goal.returns-in-Ok-clause-rows
returns-in-Ok-clause-rows g c =
    let s = stream_of c.args.index c.args.every c.args.disorder (g.S.Source.reads c.read_pieces.new.source).given in
    (grind (arith, common_steps), grind (arith, common_steps), record { source_is = grind (arith, common_steps); known = inr (s, grind (arith, common_steps), refl) })
