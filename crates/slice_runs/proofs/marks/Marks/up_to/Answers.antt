-- The marks rise, so the test of the search turns once.
use Rattle.std.proofs.Common.{ℕ, ◌+◌, rules, subst, sym}
use Rattle.std.specs.Prelude.{nat_le}
use Rattle.std.specs.List.Sorted.{IsStrictlyIncreasing}
use Rattle.std.proofs.lemmas.List.Sorted.{IsPartitionPoint-from_clause, IsPartitionedBy-leb}
use Rattle.stream_base.specs.Places.{IsPlaceOf}
use Rattle.slice_lists.proofs.PlaceFacts.{marks_do_not_fall}
use Rattle.slice_runs.proofs.UpTo.{place_up_to}
use Rattle.slice_runs.proofs.marks.Marks.up_to.Goals as goal

pub returns : goal.returns
returns c =
    let marks = c.deref.result.now in
    let time = c.args.time in
    let at = c.partition_point.result in
    let rising : IsStrictlyIncreasing marks = subst IsStrictlyIncreasing (sym c.deref.ensures.value) c.self.invariant in
    let parted = IsPartitionedBy-leb (λ (m : ℕ). m) marks time (marks_do_not_fall marks rising) in
    let point = IsPartitionPoint-from_clause (λ (m : ℕ). nat_le m time) marks at c.partition_point.ensures.partitioned parted (λ a r q k. search rules) in
    rw (← c.self.view_is)
    (subst (λ ms. IsPlaceOf (λ m. m) ms (time + 1) at) c.deref.ensures.value (place_up_to (λ (m : ℕ). m) marks time at c.partition_point.ensures.bound point))
