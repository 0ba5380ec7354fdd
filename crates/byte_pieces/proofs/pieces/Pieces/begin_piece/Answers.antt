-- The piece that is put to the others has some bytes, and all bytes stay.
use Rattle.std.proofs.Common.{◌≡◌, ◌∙◌, ◌<◌, ◌∷◌, ◌++◌, [], length, ap, arith, rules}
use Rattle.std.proofs.lemmas.List.Elements.{All-push, All-same}
use Rattle.std.proofs.lemmas.Grind.{common_steps}
use Rattle.byte_pieces.specs.Pieces.{bytes_in}
use Rattle.byte_pieces.proofs.pieces.Pieces.begin_piece.Goals as goal

pub invariant_of-self-2 : goal.invariant_of-self-2
invariant_of-self-2 c =
    let old = c.self.inside.full.items in
    let new = c.push_back_reserved.new.self.items in
    let done = c.replace-done.result in
    let grown : new ≡ old ++ done ∷ [] = search rules in
    let some : 0 < length done.items = rw c.replace-done.ensures.value (search rules) in
    let same : bytes_in old ++ c.self.inside.last.items ≡ bytes_in new ++ c.replace-done.new.dest.items = grind (arith, common_steps) in (
      All-same (λ piece. 0 < length piece.items) new (old ++ done ∷ []) grown (All-push (λ piece. 0 < length piece.items) old done c.self.invariant.0 some),
      c.self.invariant.1 ∙ ap length same,
    )
