-- What was left of the report goes out.
use Rattle.emission_text.proofs.Sent.{put_then_flushed}
use Rattle.part_run.proofs.join.write_joined.Goals as goal

pub returns : goal.returns
returns g c = put_then_flushed c.flush.new.sink c.flush.result (rw c.new-out.ensures at c.in_ok-put_joined.ensures) c.flush.ensures.writes
