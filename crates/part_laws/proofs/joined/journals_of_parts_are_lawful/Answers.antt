use Rattle.part_laws.proofs.JoinedRuns.{parts_are_whole}
use Rattle.part_laws.proofs.joined.journals_of_parts_are_lawful.Goals as goal

pub returns : goal.returns
returns c = parts_are_whole
