-- The last mark before the place is the greatest.
use Rattle.std.proofs.Common.{◌-◌, arith, rules}
use Rattle.window_spans.proofs.MarkSides.{last_is, none_before}
use Rattle.window_spans.proofs.edges.mark_before.Goals as goal

pub returns-then-place-eq0 : goal.returns-then-place-eq0
returns-then-place-eq0 c = none_before c.args.marks.now c.args.time c.requires.marks.rising c.args.place c.requires.place (omega arith)

pub returns-else-place-eq0 : goal.returns-else-place-eq0
returns-else-place-eq0 c = last_is c.args.marks.now c.args.time c.requires.marks.rising c.args.place c.requires.place (c.args.place - 1) (omega arith) _ (search rules)
