-- The mark at the place is the least of those behind.
use Rattle.std.proofs.Common.{rules}
use Rattle.window_spans.proofs.MarkSides.{next_is, none_behind}
use Rattle.window_spans.proofs.edges.mark_behind.Goals as goal

pub returns-then-place-marks : goal.returns-then-place-marks
returns-then-place-marks c = next_is c.args.marks.now c.args.time c.requires.marks.rising c.args.place c.requires.place (search rules) _ (search rules) (search rules)

pub returns-else-place-marks : goal.returns-else-place-marks
returns-else-place-marks c = none_behind c.args.marks.now c.args.time c.requires.marks.rising c.args.place c.requires.place (search rules)
