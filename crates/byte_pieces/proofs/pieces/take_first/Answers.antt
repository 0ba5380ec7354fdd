-- The pieces behind the first are some of those that were there.
use Rattle.std.proofs.Common.{◌<◌, ◌∷◌, length, sym}
use Rattle.std.proofs.lemmas.List.Elements.{All-same, All-tail}
use Rattle.byte_pieces.proofs.pieces.take_first.Goals as goal

pub returns-in-Some-clause-full : goal.returns-in-Some-clause-full
returns-in-Some-clause-full c =
    All-tail (λ piece. 0 < length piece.items) c.in-Some.piece c.pop_front.new.self.items
    (All-same (λ piece. 0 < length piece.items) (c.in-Some.piece ∷ c.pop_front.new.self.items) c.args.full.now.items (sym c.in-Some.ensures.items) c.requires)
