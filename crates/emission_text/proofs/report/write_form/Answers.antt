-- What was left of the report goes out.
use Rattle.emission_text.proofs.Sent.{put_then_flushed}
use Rattle.emission_text.proofs.report.write_form.Goals as goal

pub returns : goal.returns
returns g c = put_then_flushed c.flush.new.sink c.flush.result (rw c.new-out.ensures at c.in_ok-put_report.ensures) c.flush.ensures.writes
