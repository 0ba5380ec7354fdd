use Rattle.fan_in.proofs.Journals.{all_given, closed, of_desk, settled}
use Rattle.fan_in.proofs.turns.closing.close_desk.Goals as goal

pub close-requires-clause-own : goal.close-requires-clause-own
close-requires-clause-own g c = of_desk _ _ _ _ _ c.requires.zero c.requires.rows c.in_ok-column.ensures.column

pub returns-in-Ok-clause-closed : goal.returns-in-Ok-clause-closed
returns-in-Ok-clause-closed g c =
    rw c.into_shard.ensures.value (closed _ _ _ _ _ c.requires.zero c.requires.rows c.in_ok-column.ensures.column c.in-Ok.booked c.into_shard.ensures.numbered c.in-Ok.ensures.fixed c.into_shard.ensures.journal)

pub returns-in-Ok-clause-settled : goal.returns-in-Ok-clause-settled
returns-in-Ok-clause-settled g c =
    let column = c.in_ok-column.ensures.column in
    let complete = c.in-Ok.ensures.complete (all_given _ _ _ _ _ c.requires.zero c.requires.rows column) in
    rw c.into_shard.ensures.value (settled _ _ _ _ _ c.requires.zero c.requires.rows column c.in-Ok.booked c.into_shard.ensures.numbered c.in-Ok.ensures.begins c.in-Ok.ensures.made complete)
