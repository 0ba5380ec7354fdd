-- The run of the instance is folded.
use Rattle.std.proofs.Common.{◌∙◌, ◌+◌, ◌-◌, ◌*◌, ap, take, drop}
use Rattle.count_shift.specs.Folded.{folded_onto}
use Rattle.count_shift.proofs.Folding.{row_is}
use Rattle.count_shift.proofs.events_window.EventsWindow.row.Goals as goal

pub returns-clause-value : goal.returns-clause-value
returns-clause-value g c =
    let w = c.args.self.now in
    row_is w.gone w.window w.key.now w.func w.count c.args.items.now c.args.i c.fold_onto-folded.result c.show.result c.requires.filled (c.fold_onto-folded.ensures.value ∙ ap (λ b. folded_onto b (take (c.args.i * w.count + w.count - c.args.i * w.count) (drop (c.args.i * w.count) c.args.items.now))) c.unit.ensures) c.show.ensures
