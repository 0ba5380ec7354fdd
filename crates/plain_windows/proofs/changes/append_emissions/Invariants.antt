-- What is appended so far, with what the windows that are left append, is all.
use Rattle.std.proofs.Common.{◌≡◌, ◌≤◌, ◌-◌, ◌++◌, length, drop, vec_len}
use Rattle.std.specs.Prelude.{vec_capacity}
use Rattle.std.specs.List.{enumerate_from, flat_map}
use Rattle.stream_base.specs.Model.Changes.{emissions}
use Rattle.plain_windows.proofs.changes.append_emissions.Given as goal

abbrev pub invariant-loop-place : goal.invariant-loop-place
invariant-loop-place g l = record {
  capacity : vec_capacity l.out ≡ vec_capacity l.initial.out;
  room : length (flat_map (emissions l.key l.old l.new) (enumerate_from l.place (drop l.place l.windows))) ≤ vec_capacity l.out - vec_len l.out;
  all : l.out.items ++ flat_map (emissions l.key l.old l.new) (enumerate_from l.place (drop l.place l.windows))
      ≡ l.initial.out.items ++ flat_map (emissions l.key l.old l.new) (enumerate_from 0 l.windows);
}
