-- The definitions tell their limits, and the store that its tuples are in order.
use Rattle.slice_tests.proofs.ContextFacts.{cut_for}
use Rattle.slice_tests.proofs.told.is_cut.Goals as goal

pub returns : goal.returns
returns g c = cut_for c.args.defs.now c.args.store.now c.windows-windows.ensures.limits c.slice_count-count.ensures.holds c.requires
