-- The change at a place is counted before those behind it.
use Rattle.std.proofs.Common.{◌<◌, length, arith}
use Rattle.model_laws.specs.Counts.{is_new_in}
use Rattle.live_board.proofs.Counted.{counted_from}
use Rattle.live_board.proofs.counting.add_emitted.Goals as goal

pub count_emission-requires : goal.count_emission-requires
count_emission-requires c =
    let within : c.changes.at < length c.args.changes.now = omega arith in
    record {
      fit = λ w few. omega (arith, counted_from (is_new_in w) c.args.changes.now c.changes.at c.get.result within c.get.ensures, c.changes.invariant.1 w few, c.requires.fit w few);
    }

pub changes-preserved : goal.changes-preserved
changes-preserved c =
    let within : c.changes.at < length c.args.changes.now = omega arith in (
      c.count_emission.ensures.many,
      λ w few. omega (arith, counted_from (is_new_in w) c.args.changes.now c.changes.at c.get.result within c.get.ensures, c.changes.invariant.1 w few, c.count_emission.ensures.counts w few),
    )
