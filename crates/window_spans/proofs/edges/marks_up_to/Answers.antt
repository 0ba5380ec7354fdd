-- The marks rise, so the test of the search turns once.
use Rattle.std.proofs.Common.{ℕ, ◌<◌, ◌≤◌, arith, get_or, rules}
use Rattle.std.specs.Prelude.{nat_le}
use Rattle.std.proofs.lemmas.Bool.{leb-false, leb-true}
use Rattle.std.proofs.lemmas.List.Sorted.{IsPartitionPoint-from_clause, IsPartitionedBy-leb}
use Rattle.window_spans.proofs.edges.marks_up_to.Goals as goal

pub returns : goal.returns
returns c =
    let marks = c.args.marks.now in
    let time = c.args.time in
    let at = c.partition_point.result in
    let parted = IsPartitionedBy-leb (λ (m : ℕ). m) marks time c.requires in
    let point = IsPartitionPoint-from_clause (λ (m : ℕ). nat_le m time) marks at c.partition_point.ensures.partitioned parted (λ a r q k. search rules) in
    record {
      within = c.partition_point.ensures.bound;
      before = λ k d low high. (let l : get_or marks k d ≤ time = leb-true (get_or marks k d) time (point.0 k d low high) in omega arith);
      behind = λ k d low high. (let l : time < get_or marks k d = leb-false (get_or marks k d) time (point.1 k d low high) in omega arith);
    }
