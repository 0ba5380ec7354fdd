-- The slice at the place is the first from the time on, and under its first time stands its partial.
use Rattle.std.proofs.Common.{◌≡◌, ◌∙◌, ◌<◌, ◌≤◌, Some, [], ap, arith, get_or, length, subst, sym}
use Rattle.std.specs.Prelude.{IfSome}
use Rattle.stream_base.specs.Model.Windows.{first_time}
use Rattle.agg_laws.specs.Pairs.{value_at}
use Rattle.slice_lists.specs.declared.slice.Slice.{Slice}
use Rattle.slice_lists.specs.Slices.{values_of}
use Rattle.slice_lists.proofs.WithinFacts.{first_from, none_from}
use Rattle.slice_store.proofs.PartialFacts.{partial_found, slice_is_value}
use Rattle.slice_store.proofs.store.SliceStoreAggStore.partial_within.Goals as goal

pub returns-then-at-len-clause-none : goal.returns-then-at-len-clause-none
returns-then-at-len-clause-none g c =
    rw (← c.self.view_is)
    (subst (λ found. IfSome found (λ run. c.args.high ≤ first_time run))
    (sym (none_from c.self.inside.runs.slices c.args.low c.before-at.result c.before-at.ensures.place (omega (arith, c.len.ensures.count)))) tt)

pub returns-then-slice-high-clause-none : goal.returns-then-slice-high-clause-none
returns-then-slice-high-clause-none g c =
    let low = ap (λ (s : Slice). s.low) c.slice-slice.ensures.shown in
    rw (← c.self.view_is)
    (subst (λ found. IfSome found (λ run. c.args.high ≤ first_time run))
    (sym (first_from c.self.inside.runs.slices c.args.low c.before-at.result c.before-at.ensures.place (omega (arith, c.len.ensures.count)))) (omega (arith, low, c.if-slice-high.true)))

pub returns-clause-some : goal.returns-clause-some
returns-clause-some g c =
    let of_values = g.M.Partial.of_values in
    let runs = c.self.inside.runs.slices in
    let at = c.before-at.result in
    let run = get_or runs at [] in
    let l : at < length runs = omega (arith, c.len.ensures.count) in
    let low = ap (λ (s : Slice). s.low) c.slice-slice.ensures.shown in
    let found : value_at c.slice-slice.result.low c.self.inside.partials.pairs ≡ Some (of_values (values_of run)) =
    (λ i. value_at (low i) (c.self.invariant.partials i)) ∙ partial_found of_values runs at l c.self.invariant.holds.ordered in
    let read = c.read.ensures.value (of_values (values_of run)) (slice_is_value g.met.M.Partial.partial runs at l c.self.invariant.holds) found in
    rw (← c.self.view_is)
    record {
      run = run;
      first = first_from runs c.args.low at c.before-at.ensures.place l;
      before = omega (arith, low, c.if-slice-high.false);
      shows = λ i. (c.slice-slice.ensures.shown i, read i);
    }
