use Rattle.model_laws.proofs.PiecesBetween.{pieces_between_are_pieces, pieces_lie_between}
use Rattle.model_laws.proofs.cuts.pieces_are_those_between_cuts.Goals as goal

pub returns-clause-between : goal.returns-clause-between
returns-clause-between c = pieces_lie_between

pub returns-clause-no_others : goal.returns-clause-no_others
returns-clause-no_others c = pieces_between_are_pieces
