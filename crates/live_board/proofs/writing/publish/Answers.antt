use Rattle.std.proofs.Common.{◌∙◌, ◌++◌, ◌∷◌, [], ap, fold}
use Rattle.live_board.specs.Rule.{with_tally}
use Rattle.live_board.proofs.Showing.{publishes_tally}
use Rattle.live_board.proofs.writing.publish.Goals as goal

pub publish_as-writer-requires : goal.publish_as-writer-requires
publish_as-writer-requires g c next is =
    publishes_tally _ _ _ next c.args.tally
    (is ∙ ap (fold with_tally c.append.new.self.desk.shown.value) (c.in-Ok.ensures.pending ∙ ap (λ xs. xs ++ c.args.tally ∷ []) c.requires.may.at.idle))
    (rw c.append.ensures.desk c.requires.may.no_less)
    (rw c.append.ensures.desk c.requires.may.tally)
