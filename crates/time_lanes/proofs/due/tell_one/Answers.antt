-- The row is that of the slices of the interval.
use Rattle.std.proofs.Common.{◌≡◌, ◌∙◌, ◌+◌, ◌++◌, [], ◌∷◌, ap, arith}
use Rattle.stream_base.specs.declared.change.Change.TheVariants.{New}
use Rattle.agg_store.specs.Stored.{tuples_of}
use Rattle.time_lanes.proofs.WalkFacts.{shown_of_held}
use Rattle.time_lanes.proofs.due.tell_one.Goals as goal

pub returns-clause-told : goal.returns-clause-told
returns-clause-told g c = λ h le.
    let s = (g.S.AggStore.stored c.args.store.now) in
    let span = c.args.span.now in
    let to : c.pull.new.self.to ≡ c.args.low + span.length = omega (arith, c.pull.ensures.to, le) in
    let shown = shown_of_held g.met.M.Partial.partial span.length span.slide c.args.low c.requires.start.multiple.0 c.pull.new.self.to s.slices c.pull.new.self.partials c.fold-partial.result c.pull.ensures.holds.slices c.requires.start.parted c.requires.start.multiple.1 to (c.pull.ensures.held h) c.fold-partial.ensures.value in
    c.push_reserved.ensures.items ∙ ap (λ row. c.args.out.now.items ++ New row ∷ []) (c.row.ensures (tuples_of s) (c.show-shown.ensures (tuples_of s) c.args.low (c.args.low + span.length) shown c.pull.ensures.holds.slices.counted))
