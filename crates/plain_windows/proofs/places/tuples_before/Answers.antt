-- The times of the tuples don't fall, so all up to one before the time lie before it, and the test of the search turns once.
use Rattle.std.proofs.Common.{◌≡◌, ◌≤◌, ◌<◌, length, get_or, ap, arith, rules}
use Rattle.std.specs.Prelude.{nat_lt}
use Rattle.std.specs.List.{AllWithin}
use Rattle.std.proofs.lemmas.List.{get_or_default}
use Rattle.std.proofs.lemmas.List.Sorted.{IsPartitionPoint-from_clause}
use Rattle.stream_base.specs.declared.kept.Kept.{Kept}
use Rattle.plain_windows.proofs.PlaceFacts.{searched_behind, some_tuple}
use Rattle.plain_windows.proofs.places.tuples_before.Goals.{then-loop-start-test+else-time-kept, else-loop-start-test}
use Rattle.plain_windows.proofs.places.tuples_before.Goals as goal

pub returns : goal.returns
returns c =
    let kept = c.args.kept.now in
    let time = c.args.time in
    let start = c.loop-start.start in
    let at = c.partition_point.result in
    let near = c.split_at.result.1.now in
    let front : AllWithin (λ (x : Kept). x.time < time) kept 0 start = elim c.loop-start-test.branch [
      | then-loop-start-test+else-time-kept w ↦
          λ k d low high.
          let inside : start < length kept = c.loop-start.invariant.1 (omega arith) in
          let le : (get_or kept k d).time ≤ (get_or kept start d).time = c.requires k start d (omega arith) inside in
          let early : (get_or kept start some_tuple).time < time = w.if-time-kept.false in
          let same : (get_or kept start d).time ≡ (get_or kept start some_tuple).time = ap (λ (x : Kept). x.time) (get_or_default kept start d some_tuple inside) in
          omega arith
      | else-loop-start-test w ↦ λ k d low high. absurd (omega (arith, w.loop-start-test.false))
    ] in
    searched_behind kept time start at near c.requires c.loop-start.invariant.0 front (search rules) c.partition_point.ensures.bound
    (λ parted. IsPartitionPoint-from_clause (λ (x : Kept). nat_lt x.time time) near at c.partition_point.ensures.partitioned parted (λ a r q k. search rules))
