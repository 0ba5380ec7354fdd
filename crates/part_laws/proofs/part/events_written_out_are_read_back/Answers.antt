use Rattle.part_laws.proofs.Recording.{events_read_back}
use Rattle.part_laws.proofs.part.events_written_out_are_read_back.Goals as goal

pub returns : goal.returns
returns c = events_read_back
