-- Where the pair at the place of the key, if there is one, has another key, no pair has it.
use Rattle.std.proofs.Common.{sym, ap, ◌∙◌}
use Rattle.pair_row.proofs.Places.{absent_at_end, absent_at_other}
use Rattle.pair_row.proofs.pair_row.index_of.Goals as goal
use Rattle.pair_row.proofs.pair_row.index_of.Goals.{else-at-pairs-via-then-at-pairs+else-pairs-at, else-at-pairs-via-else-at-pairs}

pub returns-else-at-pairs-clause-none : goal.returns-else-at-pairs-clause-none
returns-else-at-pairs-clause-none g c =
    let place = c.place_of-at.ensures in
    elim c.else-at-pairs.branch [ else-at-pairs-via-then-at-pairs+else-pairs-at w ↦ absent_at_other c.args.key c.place_of-at.result c.args.pairs.now c.requires place.before place.behind w.index-pairs-at.result w.if-at-pairs.true w.index-pairs-at.is (λ e. w.if-pairs-at.false (sym (ap (λ p. p.0) w.index-pairs-at.is) ∙ e)) | else-at-pairs-via-else-at-pairs w ↦ absent_at_end c.args.key c.place_of-at.result c.args.pairs.now c.requires place.before place.behind w.if-at-pairs.false ]
