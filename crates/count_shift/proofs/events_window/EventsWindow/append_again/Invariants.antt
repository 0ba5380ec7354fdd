-- The instances so far are told, each in as many steps as it has tuples and had before.
use Rattle.std.proofs.Common.{◌≡◌, ◌≤◌, ◌+◌, ◌-◌, ◌*◌, ◌++◌, map, vec_len, vec_capacity}
use Rattle.std.specs.List.{range_with_len, remove}
use Rattle.count_shift.specs.Counting.{again_behind}
use Rattle.count_shift.proofs.events_window.EventsWindow.append_again.Given as goal

abbrev pub invariant-loop-i : goal.invariant-loop-i
invariant-loop-i g l = record {
  told : l.out.items ≡ l.initial.out.items ++ map (again_behind l.self.gone l.self.window l.self.key.now l.self.func l.self.count (remove l.items l.rank) l.items) (range_with_len l.from (l.i - l.from));
  number : vec_len l.out ≡ vec_len l.initial.out + (l.i - l.from);
  capacity : vec_capacity l.out ≡ vec_capacity l.initial.out;
  cost : l.steps ≤ l.initial.steps + 2 * l.self.count * (l.i - l.from);
  none : l.to ≤ l.from → l.i ≡ l.from;
}
