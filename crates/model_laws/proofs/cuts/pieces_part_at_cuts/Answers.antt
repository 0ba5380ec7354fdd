use Rattle.stream_base.proofs.Pieces.{pieces_joined, no_cut_inside, cut_between}
use Rattle.model_laws.proofs.cuts.pieces_part_at_cuts.Goals as goal

pub returns-clause-together : goal.returns-clause-together
returns-clause-together c = pieces_joined

pub returns-clause-inside : goal.returns-clause-inside
returns-clause-inside c = no_cut_inside

pub returns-clause-between : goal.returns-clause-between
returns-clause-between c = cut_between
