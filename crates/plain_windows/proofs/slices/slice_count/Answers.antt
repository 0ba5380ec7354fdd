-- What isn't settled stands from the first such tuple on.
use Rattle.std.proofs.Common.{◌≡◌, ◌∙◌, drop, length, refl, sym}
use Rattle.stream_base.specs.Model.Slices.{runs_of, unsettled}
use Rattle.plain_windows.proofs.Turns.{unsettled_behind}
use Rattle.plain_windows.proofs.slices.slice_count.Goals as goal

pub returns : goal.returns
returns c =
    let d = c.args.defs.now in
    let v = c.args.view.now in
    let first = c.first_unsettled.result in
    let left : unsettled d v ≡ drop first v.kept = unsettled_behind d v d.windows d.lateness first refl refl c.first_unsettled.ensures in
    c.count_slices.ensures ∙ (λ i. length (runs_of d.windows v.marks (sym left i)))
