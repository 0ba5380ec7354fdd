-- Marks that rise are in order.
use Rattle.slice_lists.proofs.PlaceFacts.{marks_do_not_fall}
use Rattle.window_spans.proofs.edges.holder.Goals as goal

pub marks_before-place-requires : goal.marks_before-place-requires
marks_before-place-requires c = marks_do_not_fall c.args.marks.now c.requires.marks.rising
