-- The lines of the rows so far, with those that are left, are all.
use Rattle.std.proofs.Common.{◌≡◌, ◌++◌, drop}
use Rattle.std.specs.Prelude.{filter}
use Rattle.std.specs.List.{flat_map}
use Rattle.row_text.specs.Lines.{is_asked, row_line}
use Rattle.row_text.proofs.table.put_asked.Given as goal

abbrev pub invariant-loop-row : goal.invariant-loop-row
invariant-loop-row l =
    l.out.items ++ flat_map (row_line l.format l.number l.closed) (filter (is_asked l.key) (drop l.row-index l.rows))
    ≡ l.fn.out.items ++ flat_map (row_line l.format l.number l.closed) (filter (is_asked l.key) l.rows)
