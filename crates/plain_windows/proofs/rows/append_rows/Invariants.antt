-- What is appended so far, with the rows of the windows that are left, is all.
use Rattle.std.proofs.Common.{◌≡◌, ◌++◌, map, drop}
use Rattle.std.specs.List.{enumerate_from, flat_map}
use Rattle.stream_base.specs.Model.Changes.{row_of, rows_at, standing_at}
use Rattle.plain_windows.proofs.rows.append_rows.Given as goal

abbrev pub invariant-loop-place : goal.invariant-loop-place
invariant-loop-place g l =
    l.out.items ++ flat_map (λ w. map (row_of w.0 l.key (w.1).func) (standing_at w.1 l.view)) (enumerate_from l.place (drop l.place l.windows))
    ≡ l.initial.out.items ++ rows_at l.windows l.key l.view
