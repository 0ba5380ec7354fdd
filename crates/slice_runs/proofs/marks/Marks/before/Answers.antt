-- The marks rise, so the test of the search turns once.
use Rattle.std.proofs.Common.{ℕ, rules, subst, sym}
use Rattle.std.specs.Prelude.{nat_lt}
use Rattle.std.specs.List.Sorted.{IsStrictlyIncreasing}
use Rattle.std.proofs.lemmas.List.Sorted.{IsPartitionPoint-from_clause, IsPartitionedBy-ltb}
use Rattle.stream_base.specs.Places.{IsPlaceOf}
use Rattle.slice_lists.proofs.PlaceFacts.{place_from_point, marks_do_not_fall}
use Rattle.slice_runs.proofs.marks.Marks.before.Goals as goal

pub returns : goal.returns
returns c =
    let marks = c.deref.result.now in
    let time = c.args.time in
    let at = c.partition_point.result in
    let rising : IsStrictlyIncreasing marks = subst IsStrictlyIncreasing (sym c.deref.ensures.value) c.self.invariant in
    let parted = IsPartitionedBy-ltb (λ (m : ℕ). m) marks time (marks_do_not_fall marks rising) in
    let point = IsPartitionPoint-from_clause (λ (m : ℕ). nat_lt m time) marks at c.partition_point.ensures.partitioned parted (λ a r q k. search rules) in
    rw (← c.self.view_is)
    (subst (λ ms. IsPlaceOf (λ m. m) ms time at) c.deref.ensures.value (place_from_point (λ (m : ℕ). m) marks time at c.partition_point.ensures.bound point))
