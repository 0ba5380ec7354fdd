-- What is appended so far, with those that are left, is all.
use Rattle.std.proofs.Common.{◌≡◌, ◌≤◌, ◌-◌, ◌++◌, not, drop, length}
use Rattle.std.specs.Prelude.{filter, vec_capacity, vec_len}
use Rattle.key_slicer.specs.Sorted.{is_gone}
use Rattle.key_slicer.proofs.sorted.append_others.Given as goal

abbrev pub invariant-loop-change : goal.invariant-loop-change
invariant-loop-change l = record {
  capacity : vec_capacity l.out ≡ vec_capacity l.fn.out;
  room : length (filter (λ change. not (is_gone change)) (drop l.change-index l.changes)) ≤ vec_capacity l.out - vec_len l.out;
  all : l.out.items ++ filter (λ change. not (is_gone change)) (drop l.change-index l.changes) ≡ l.fn.out.items ++ filter (λ change. not (is_gone change)) l.changes;
}
