-- What is appended, and what the keys that are left bring, is all.
use Rattle.std.proofs.Common.{◌≡◌, ◌++◌}
use Rattle.std.specs.List.{flat_map}
use Rattle.tail_windows.specs.Following.{list_of}
use Rattle.tail_windows.specs.Walks.{HasAppended, moved_changes}
use Rattle.tail_windows.proofs.timelines.Timelines.append_move.Given as goal

abbrev pub invariant-loop-key : goal.invariant-loop-key
invariant-loop-key g l =
    (l.out.items ++ flat_map (λ k. moved_changes l.def k l.old l.new (list_of l.self k)) l.key-iterator ≡ l.fn.out.items ++ flat_map (λ k. moved_changes l.def k l.old l.new (list_of l.self k)) l.due.keys)
    × HasAppended l.def.count l.fn.out.items l.out.items l.fn.steps l.steps
