-- No tuple is above the greatest time.
use Rattle.slice_lists.proofs.SliceFacts.{all_end}
use Rattle.slice_store.proofs.store.SliceStoreAggStore.slice_count.Goals as goal

pub returns-clause-ends : goal.returns-clause-ends
returns-clause-ends g c = rw (← c.self.view_is) (all_end c.self.inside.runs.slices c.len.ensures.holds)
