-- The slices are those of the definitions.
use Rattle.agg_store.specs.Stored.{IsSliced}
use Rattle.store_times.proofs.filling.fill.Given as goal

abbrev pub invariant-loop-i : goal.invariant-loop-i
invariant-loop-i g l = IsSliced l.defs.windows l.store
