-- No row is out of order.
use Rattle.std.proofs.Common.{sym, subst}
use Rattle.std.specs.List.Sorted.{IsStrictlySortedBy}
use Rattle.stream_base.specs.Laws.{by_row}
use Rattle.stream_base.proofs.Rising.{sorted_nil}
use Rattle.model_laws.proofs.StandingRows.{by_row_total}
use Rattle.standing_rows.specs.Placed.{rows_of}
use Rattle.standing_rows.proofs.standing.StandingRows.new.Goals as goal

pub invariant_of-result : goal.invariant_of-result
invariant_of-result c = subst (λ es. IsStrictlySortedBy by_row (rows_of es)) (sym c.new.ensures.empty) (sorted_nil by_row_total)
