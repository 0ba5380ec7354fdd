-- The text so far, and then the pieces that are left, is the text with all of them.
use Rattle.std.proofs.Common.{◌≡◌, ◌++◌, drop}
use Rattle.std.specs.List.{flat_map}
use Rattle.part_text.proofs.defs_text.put_pieces.Given as goal

abbrev pub invariant-loop-piece : goal.invariant-loop-piece
invariant-loop-piece l =
    l.text.items ++ flat_map (λ piece. piece.now) (drop l.piece-index l.pieces)
    ≡ l.fn.text.items ++ flat_map (λ piece. piece.now) l.pieces
