-- What was left of the text goes out.
use Rattle.emission_text.proofs.Sent.{put_then_flushed}
use Rattle.tail_text.proofs.report.write_tails.Goals as goal

pub returns : goal.returns
returns g c = put_then_flushed c.flush.new.sink c.flush.result (rw c.new-out.ensures at c.in_ok-put_text.ensures) c.flush.ensures.writes
