-- What a write took is one part more.
use Rattle.rows_run.proofs.Sent.{appends_taken, fails_at_once}
use Rattle.rows_run.proofs.sending.write_all.Goals as goal

pub returns-in-Err : goal.returns-in-Err
returns-in-Err g c = fails_at_once c.pieces.invariant c.in-Err.ensures.kept c.in-Err.ensures.failed

pub pieces-preserved : goal.pieces-preserved
pieces-preserved g c =
    appends_taken c.pieces.rest.now c.in-Ok.taken c.in-Ok.ensures.within c.pieces.invariant c.in-Ok.ensures.appended c.in-Ok.ensures.quiet
