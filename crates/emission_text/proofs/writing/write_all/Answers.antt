-- What a write took is one part more.
use Rattle.emission_text.proofs.Sent.{appends_taken, fails_at_once, write_failed}
use Rattle.emission_text.proofs.writing.write_all.Goals as goal

pub returns-in_err-taken : goal.returns-in_err-taken
returns-in_err-taken g c =
    write_failed c.args.bytes.now c.write.new.self c.from_residual.result c.from_residual.ensures.0 (fails_at_once c.pieces.invariant c.in_err-taken.ensures.kept c.in_err-taken.ensures.failed)

pub pieces-preserved : goal.pieces-preserved
pieces-preserved g c =
    appends_taken c.pieces.rest.now c.in_ok-taken.taken c.in_ok-taken.ensures.within c.pieces.invariant c.in_ok-taken.ensures.appended c.in_ok-taken.ensures.quiet
