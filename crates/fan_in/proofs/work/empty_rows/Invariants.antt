use Rattle.std.proofs.Common.{◌≡◌, [], All, length}
use Rattle.fan_in.proofs.work.empty_rows.Given as goal

abbrev pub invariant-loop-i : goal.invariant-loop-i
invariant-loop-i g l = (length l.rows.items ≡ l._i) × All (λ row. row.items ≡ []) l.rows.items
