-- Those from the time on stand behind those before it.
use Rattle.std.proofs.Common.{ap, arith, length}
use Rattle.std.proofs.lemmas.List.{length-drop}
use Rattle.slice_lists.proofs.LeaveFacts.{from_place}
use Rattle.slice_store.proofs.store.SliceStore.count_from.Goals as goal

pub returns : goal.returns
returns g c =
    let s = c.self.inside in
    rw (← c.self.view_is)
    (omega (arith, c.len.ensures.count, ap length (from_place s.runs.slices c.args.time c.before-begun.result c.before-begun.ensures.place), length-drop c.before-begun.result s.runs.slices))
