-- What was pending goes out, and then the bytes.
use Rattle.emission_text.proofs.Sent.{fails_before, flushed_then, put_failed}
use Rattle.emission_text.proofs.pending.Pending.add.Goals as goal

pub returns-in_err-flush : goal.returns-in_err-flush
returns-in_err-flush g c = put_failed c.args.bytes.now c.args.self.now c.flush.new.self c.flush.new.sink c.from_residual.result c.from_residual.ensures.0 (fails_before c.args.bytes.now c.in_err-flush.ensures.writes)

pub returns : goal.returns
returns g c = flushed_then c.args.self.now c.args.bytes.now c.keep_or_write.new.self c.keep_or_write.new.sink c.keep_or_write.result c.in_ok-flush.ensures.writes c.keep_or_write.ensures
