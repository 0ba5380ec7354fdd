-- The text was put, and then what was pending went out.
use Rattle.emission_text.proofs.Sent.{put_then_flushed}
use Rattle.emission_text.proofs.summary.write_summary.Goals as goal

pub returns : goal.returns
returns g c = put_then_flushed c.flush.new.sink c.flush.result (rw c.new-out.ensures at c.in_ok-put_summary.ensures) c.flush.ensures.writes
