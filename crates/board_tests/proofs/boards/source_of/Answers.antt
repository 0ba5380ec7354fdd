-- The source ends with its end.
use Rattle.std.proofs.Common.{sym, refl, subst}
use Rattle.live_board.specs.Watched.{AreEntriesOf}
use Rattle.stream_base.specs.declared.entry.Entry.{Entry}
use Rattle.stream_base.specs.declared.what.What.TheVariants.{End}
use Rattle.board_tests.proofs.Sources.{end_within, ended}
use Rattle.board_tests.proofs.boards.source_of.Goals as goal

pub returns : goal.returns
returns g c =
    let source = c.args.source in
    let end : Entry = record { source = source; what = End } in
    let so_far = c.says.invariant in
    subst (AreEntriesOf source) (sym c.in_ok-push.ensures.items)
    (ended source c.says.entries.items end so_far.0 so_far.1 so_far.2 refl (end_within source c.ranges.source.fits) refl)
