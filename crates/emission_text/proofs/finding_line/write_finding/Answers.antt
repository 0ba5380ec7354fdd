-- What was left of the line goes out.
use Rattle.emission_text.proofs.Sent.{put_then_flushed}
use Rattle.emission_text.proofs.finding_line.write_finding.Goals as goal

pub returns : goal.returns
returns g c = put_then_flushed c.flush.new.sink c.flush.result (rw c.new-out.ensures at c.in_ok-put_finding.ensures) c.flush.ensures.writes
