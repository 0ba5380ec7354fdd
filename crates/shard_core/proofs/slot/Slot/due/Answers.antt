-- Nothing changes before the due number, where the state stands as it is, and something does from there on.
use Rattle.shard_core.proofs.slot.Slot.due.Goals as goal

pub returns : goal.returns
returns g c kept marks stands = record {
  quiet = record {
    nothing_changes = λ later further early. c.next_due.ensures.none_before kept marks later stands further early;
    waits = λ later is further early. c.next_due.ensures.waits kept marks later stands further early is;
  };
  exact = c.next_due.ensures.exact kept marks stands;
}
