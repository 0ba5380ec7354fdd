-- The instances so far are told, each in as many steps as it has tuples.
use Rattle.std.proofs.Common.{◌≡◌, ◌≤◌, ◌+◌, ◌-◌, ◌*◌, ◌++◌, map, vec_len, vec_capacity}
use Rattle.std.specs.List.{range_with_len}
use Rattle.count_shift.specs.Counting.{new_behind}
use Rattle.count_shift.proofs.events_window.EventsWindow.append_new.Given as goal

abbrev pub invariant-loop-i : goal.invariant-loop-i
invariant-loop-i g l = record {
  told : l.out.items ≡ l.initial.out.items ++ map (new_behind l.self.gone l.self.window l.self.key.now l.self.func l.self.count l.items) (range_with_len l.from (l.i - l.from));
  number : vec_len l.out ≡ vec_len l.initial.out + (l.i - l.from);
  capacity : vec_capacity l.out ≡ vec_capacity l.initial.out;
  cost : l.steps ≤ l.initial.steps + l.self.count * (l.i - l.from);
  none : l.to ≤ l.from → l.i ≡ l.from;
}
