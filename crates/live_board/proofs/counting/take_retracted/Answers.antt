-- The change at a place is counted before those behind it.
use Rattle.std.proofs.Common.{◌<◌, length, arith}
use Rattle.model_laws.specs.Counts.{is_gone_in}
use Rattle.live_board.proofs.Counted.{counted_from}
use Rattle.live_board.proofs.counting.take_retracted.Goals as goal

pub count_retraction-requires : goal.count_retraction-requires
count_retraction-requires c =
    let within : c.changes.at < length c.args.changes.now = omega arith in
    record {
      stood = λ w few. omega (arith, counted_from (is_gone_in w) c.args.changes.now c.changes.at c.get.result within c.get.ensures, c.changes.invariant.1 w few, c.requires.stood w few);
    }

pub changes-preserved : goal.changes-preserved
changes-preserved c =
    let within : c.changes.at < length c.args.changes.now = omega arith in (
      c.count_retraction.ensures.many,
      λ w few. omega (arith, counted_from (is_gone_in w) c.args.changes.now c.changes.at c.get.result within c.get.ensures, c.changes.invariant.1 w few, c.count_retraction.ensures.counts w few),
    )
