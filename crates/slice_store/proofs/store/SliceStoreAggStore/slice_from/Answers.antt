-- The slice at the place is the first from the time on.
use Rattle.std.proofs.Common.{◌∙◌, ap, Some, sym, arith}
use Rattle.std.specs.Option.{option_map}
use Rattle.slice_lists.specs.Slices.{slice_of}
use Rattle.slice_lists.proofs.WithinFacts.{first_from, none_from}
use Rattle.slice_store.proofs.store.SliceStoreAggStore.slice_from.Goals as goal

pub returns-then-at-len-clause-first : goal.returns-then-at-len-clause-first
returns-then-at-len-clause-first g c =
    rw (← c.self.view_is)
    (ap Some c.slice.ensures.shown ∙ ap (option_map slice_of) (sym (first_from c.self.inside.runs.slices c.args.time c.before-at.result c.before-at.ensures.place (omega (arith, c.len.ensures.count)))))

pub returns-else-at-len-clause-first : goal.returns-else-at-len-clause-first
returns-else-at-len-clause-first g c =
    rw (← c.self.view_is)
    (ap (option_map slice_of) (sym (none_from c.self.inside.runs.slices c.args.time c.before-at.result c.before-at.ensures.place (omega (arith, c.len.ensures.count)))))
