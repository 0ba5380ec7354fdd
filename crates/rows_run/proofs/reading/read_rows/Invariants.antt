-- The reader was given what the source gave, and no read failed.
use Rattle.std.proofs.Common.{◌≡◌}
use Rattle.rows_run.proofs.reading.read_rows.Given as goal

abbrev pub invariant-pieces : goal.invariant-pieces
invariant-pieces g l =
    let now = g.S.Source.reads l.source in
    (now.given ≡ l.reader) × (now.place ≡ (g.S.Source.reads l.fn.source).place) × (now.faults ≡ 0)
