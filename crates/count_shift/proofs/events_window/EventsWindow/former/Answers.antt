-- The run is folded in two parts, without the place that is left out.
use Rattle.std.proofs.Common.{◌∙◌, ◌*◌, ap}
use Rattle.std.specs.List.{between}
use Rattle.count_shift.specs.Folded.{folded_onto}
use Rattle.count_shift.proofs.Folding.{former_is}
use Rattle.count_shift.proofs.events_window.EventsWindow.former.Goals as goal

pub returns-clause-value : goal.returns-clause-value
returns-clause-value g c =
    let w = c.args.self.now in
    former_is w.func w.count c.args.items.now c.args.rank c.args.i c.max-left_out.result c.fold_onto-front.result c.fold_onto-folded.result c.show.result c.requires.behind c.requires.room c.max-left_out.ensures
    (c.fold_onto-front.ensures.value ∙ ap (λ b. folded_onto b (between (c.args.i * w.count) c.max-left_out.result c.args.items.now)) c.unit.ensures) c.fold_onto-folded.ensures.value c.show.ensures
