-- The last slice begins last.
use Rattle.std.proofs.Common.{◌≤◌, ◌-◌, ◌+◌, length, get_or, arith}
use Rattle.std.proofs.lemmas.Bool.{leb-true}
use Rattle.slice_lists.specs.declared.slice.Slice.{Slice}
use Rattle.slice_lists.proofs.PlaceFacts.{place_at_end}
use Rattle.slice_runs.proofs.places.begin_by.Goals as goal

pub returns-else-is_empty : goal.returns-else-is_empty
returns-else-is_empty c = λ e.
    let none : Slice = record { low = 0; high = 0; number = 0 } in
    let bounds = c.args.bounds.now in
    place_at_end (λ (s : Slice). s.low) bounds (c.args.time + 1) none c.requires
    (λ l. let h : (get_or bounds (length bounds - 1) none).low ≤ c.args.time = leb-true (get_or bounds (length bounds - 1) none).low c.args.time e in omega arith)
