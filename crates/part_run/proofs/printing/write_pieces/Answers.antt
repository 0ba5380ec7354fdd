-- What was left of the text goes out.
use Rattle.emission_text.proofs.Sent.{put_then_flushed}
use Rattle.part_run.proofs.printing.write_pieces.Goals as goal

pub returns : goal.returns
returns g c = put_then_flushed c.flush.new.sink c.flush.result (rw c.new-out.ensures at c.in_ok-add_pieces.ensures) c.flush.ensures.writes
