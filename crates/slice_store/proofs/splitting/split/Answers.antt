-- Each part has its own partial.
use Rattle.std.proofs.Common.{◌≡◌, ◌∙◌, ◌+◌, [], ap, arith, sym, subst, length, get_or, map}
use Rattle.std.specs.Prelude.{nat_le}
use Rattle.std.specs.List.{filter}
use Rattle.stream_base.specs.declared.kept.Kept.{Kept}
use Rattle.stream_base.specs.Model.Windows.{first_time}
use Rattle.agg_laws.specs.Pairs.{has_key, inserted, replaced}
use Rattle.slice_lists.specs.Runs.{AreInOrder}
use Rattle.slice_lists.specs.declared.slice.Slice.{Slice}
use Rattle.slice_lists.specs.Slices.{AreSlices, Sliced, slice_of, split_at, values_of}
use Rattle.agg_store.specs.Stored.{partial_of}
use Rattle.slice_lists.proofs.MarkFacts.{parts_length, split_first, split_longer, split_second}
use Rattle.slice_store.proofs.SplitPartials.{split_absent, split_there}
use Rattle.slice_store.proofs.PartialFacts.{partial_there}
use Rattle.slice_store.proofs.CountFacts.{few_slices}
use Rattle.slice_store.proofs.splitting.split.Goals as goal

pub overflow_add-at : goal.overflow_add-at
overflow_add-at g c = omega (arith, c.requires.can.within, few_slices c.args.runs.now.slices c.requires.holds)

pub overflow_add-at-2 : goal.overflow_add-at-2
overflow_add-at-2 g c = omega (arith, c.requires.can.within, few_slices c.args.runs.now.slices c.requires.holds)

pub slice-next-requires : goal.slice-next-requires
slice-next-requires g c =
    omega (arith, c.requires.can.within, ap length c.split.ensures.slices, split_longer c.args.runs.now.slices c.args.at c.args.time c.requires.can.within)

pub set-requires : goal.set-requires
set-requires g c =
    let runs = c.args.runs.now.slices in
    ap (λ (s : Slice). has_key s.low c.args.partials.now.pairs) c.slice-low.ensures.shown
    ∙ ap (has_key (first_time (get_or runs c.args.at []))) c.requires.stand
    ∙ partial_there g.M.Partial.of_values runs c.args.at c.requires.can.within c.slice-low.ensures.holds.ordered

pub insert-requires-clause-absent : goal.insert-requires-clause-absent
insert-requires-clause-absent g c =
    let runs = c.args.runs.now.slices in
    let at = c.args.at in
    let time = c.args.time in
    let next : c.slice-next.result ≡ slice_of (filter (λ (x : Kept). nat_le time x.time) (get_or runs at [])) =
    c.slice-next.ensures.shown ∙ ap (λ rs. slice_of (get_or rs (at + 1) [])) c.split.ensures.slices ∙ ap slice_of (split_second runs at time c.requires.can.within) in
    let order : AreInOrder (split_at at time runs) = subst AreInOrder c.split.ensures.slices c.slice-next.ensures.holds.ordered in
    let front = c.fold_of-front.ensures.value ∙ ap (λ ts. g.M.Partial.of_values (values_of ts)) (ap (λ rs. get_or rs at []) c.split.ensures.slices ∙ split_first runs at time c.requires.can.within) in
    (λ i. has_key (ap (λ (s : Slice). s.low) next i) (c.set.ensures.replaced i))
    ∙ (λ i. has_key (first_time (filter (λ (x : Kept). nat_le time x.time) (get_or runs at []))) (replaced (ap (λ (s : Slice). s.low) c.slice-low.ensures.shown i) c.fold_of-front.result (c.requires.stand i)))
    ∙ split_absent g.M.Partial.of_values runs at time c.requires.can.within c.slice-low.ensures.holds.ordered order c.requires.can.before c.fold_of-front.result front

pub returns-clause-follow : goal.returns-clause-follow
returns-clause-follow g c =
    let runs = c.args.runs.now.slices in
    let at = c.args.at in
    let time = c.args.time in
    let next : c.slice-next.result ≡ slice_of (filter (λ (x : Kept). nat_le time x.time) (get_or runs at [])) =
    c.slice-next.ensures.shown ∙ ap (λ rs. slice_of (get_or rs (at + 1) [])) c.split.ensures.slices ∙ ap slice_of (split_second runs at time c.requires.can.within) in
    let order : AreInOrder (split_at at time runs) = subst AreInOrder c.split.ensures.slices c.slice-next.ensures.holds.ordered in
    let front = c.fold_of-front.ensures.value ∙ ap (λ ts. g.M.Partial.of_values (values_of ts)) (ap (λ rs. get_or rs at []) c.split.ensures.slices ∙ split_first runs at time c.requires.can.within) in
    let back = c.fold_of-back.ensures.value ∙ ap (λ ts. g.M.Partial.of_values (values_of ts)) (ap (λ (r : Sliced). get_or r.slices (at + 1) []) c.fold_of-front.ensures.kept ∙ ap (λ rs. get_or rs (at + 1) []) c.split.ensures.slices ∙ split_second runs at time c.requires.can.within) in
    let kept = c.fold_of-back.ensures.kept ∙ c.fold_of-front.ensures.kept in
    record {
      slices = ap (λ (r : Sliced). r.slices) kept ∙ c.split.ensures.slices;
      holds = subst (λ (r : Sliced). AreSlices r.slices) (sym kept) c.split.ensures.holds;
      stand = c.insert.ensures.inserted
          ∙ (λ i. inserted (ap (λ (s : Slice). s.low) next i) c.fold_of-back.result (c.set.ensures.replaced i))
          ∙ (λ i. inserted (first_time (filter (λ (x : Kept). nat_le time x.time) (get_or runs at []))) c.fold_of-back.result (replaced (ap (λ (s : Slice). s.low) c.slice-low.ensures.shown i) c.fold_of-front.result (c.requires.stand i)))
          ∙ split_there g.M.Partial.of_values runs at time c.requires.can.within c.slice-low.ensures.holds.ordered order c.requires.can.before c.fold_of-front.result front c.fold_of-back.result back
          ∙ ap (map (partial_of g.M.Partial.of_values)) (sym c.split.ensures.slices)
          ∙ ap (λ (r : Sliced). map (partial_of g.M.Partial.of_values) r.slices) (sym kept);
      room = omega (arith, c.split.ensures.spare, ap (λ (r : Sliced). r.spare) kept);
      spare = omega (arith, c.set.ensures.keeps.spare, c.insert.ensures.spare);
      reach = omega (arith, c.set.ensures.keeps.reach, c.insert.ensures.reach);
    }

pub returns-clause-cost : goal.returns-clause-cost
returns-clause-cost g c =
    let runs = c.args.runs.now.slices in
    let at = c.args.at in
    let time = c.args.time in
    let front = ap (λ rs. get_or rs at []) c.split.ensures.slices ∙ split_first runs at time c.requires.can.within in
    let back = ap (λ (r : Sliced). get_or r.slices (at + 1) []) c.fold_of-front.ensures.kept ∙ ap (λ rs. get_or rs (at + 1) []) c.split.ensures.slices ∙ split_second runs at time c.requires.can.within in
    omega (arith, c.fold_of-front.ensures.cost, c.fold_of-back.ensures.cost, ap length front, ap length back, parts_length time (get_or runs at []), c.set.ensures.cost, c.set.ensures.keeps.reach, c.insert.ensures.cost)
