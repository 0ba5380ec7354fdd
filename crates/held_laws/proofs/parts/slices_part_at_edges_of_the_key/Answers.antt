use Rattle.held_laws.proofs.PartFacts.{parts_at_edges}
use Rattle.held_laws.proofs.parts.slices_part_at_edges_of_the_key.Goals as goal

pub returns : goal.returns
returns c = parts_at_edges
