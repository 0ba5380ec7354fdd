use Rattle.fan_in.proofs.Columns.{IsTaking}
use Rattle.fan_in.proofs.turns.closing.column_of.Given as goal

abbrev pub invariant-loop-i : goal.invariant-loop-i
invariant-loop-i l = IsTaking l.fn.zero l.i l.initial.rows l.rows l.column.items
