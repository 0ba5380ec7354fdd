-- The first slice from the time on is in the interval, or none is.
use Rattle.std.proofs.lemmas.Option.{IfSome_then}
use Rattle.time_lanes.proofs.NextFacts.{none_left, none_map, some_next}
use Rattle.time_lanes.proofs.next.next_partial.Goals as goal

pub returns-clause-some : goal.returns-clause-some
returns-clause-some g c =
    let s = (g.S.AggStore.stored c.args.store.now).slices in
    let found = c.partial_within.ensures in
    IfSome_then c.partial_within.result found.some (λ shown first. some_next g.M.Partial.of_values s found.holds.slices c.args.from c.args.to shown first)

pub returns-clause-none : goal.returns-clause-none
returns-clause-none g c =
    let s = (g.S.AggStore.stored c.args.store.now).slices in
    let found = c.partial_within.ensures in
    none_map c.partial_within.result (none_left s found.holds.slices c.args.from c.args.to) found.none
