-- The partial of the slice is that of its tuples, with the new one among them.
use Rattle.std.proofs.Common.{◌≡◌, ◌∙◌, ◌<◌, ◌+◌, ◌-◌, [], ap, sym, map, refl, subst, arith, length, get_or}
use Rattle.stream_base.specs.Model.Windows.{first_time}
use Rattle.agg_laws.specs.Pairs.{distance, has_key, replaced}
use Rattle.slice_lists.specs.declared.slice.Slice.{Slice}
use Rattle.slice_lists.specs.Slices.{AreSlices, Sliced, values_of}
use Rattle.agg_store.specs.Stored.{partial_of}
use Rattle.slice_lists.proofs.SliceEdits.{put_length}
use Rattle.slice_lists.proofs.SliceFacts.{entered_there, refolded_length}
use Rattle.slice_store.proofs.PartialFacts.{partial_behind, partial_there, refolded_there}
use Rattle.slice_store.proofs.CostFacts.{spends_more}
use Rattle.slice_store.proofs.CountFacts.{few_slices}
use Rattle.slice_store.proofs.entering.refold.Goals as goal

pub overflow_add-at : goal.overflow_add-at
overflow_add-at g c = omega (arith, c.requires.may.can.within, few_slices c.args.runs.now.slices c.requires.may.holds)

pub set-requires : goal.set-requires
set-requires g c =
    let l : c.args.at < length c.args.runs.now.slices = omega (arith, c.requires.may.can.within) in
    ap (λ (s : Slice). has_key s.low c.args.partials.now.pairs) c.slice-low.ensures.shown
    ∙ ap (has_key (first_time (get_or c.args.runs.now.slices c.args.at []))) c.requires.may.stand
    ∙ partial_there g.M.Partial.of_values c.args.runs.now.slices c.args.at l c.slice-low.ensures.holds.ordered

pub returns-clause-follow : goal.returns-clause-follow
returns-clause-follow g c =
    let runs = c.args.runs.now.slices in
    let l : c.args.at < length runs = omega (arith, c.requires.may.can.within) in
    let own = ap (λ rs. get_or rs c.args.at []) c.enter.ensures.slices ∙ entered_there runs c.args.at (c.args.at + 1) c.args.x refl l in
    record {
      slices = ap (λ (r : Sliced). r.slices) c.fold_of-partial.ensures.kept ∙ c.enter.ensures.slices;
      holds = subst (λ (r : Sliced). AreSlices r.slices) (sym c.fold_of-partial.ensures.kept) c.enter.ensures.holds;
      stand = c.set.ensures.replaced
          ∙ (λ i. replaced (ap (λ (s : Slice). s.low) c.slice-low.ensures.shown i) c.fold_of-partial.result (c.requires.may.stand i))
          ∙ refolded_there g.M.Partial.of_values runs c.args.at (c.args.at + 1) c.args.x c.slice-low.ensures.holds.ordered c.requires.may.can.ordered refl l c.requires.late c.fold_of-partial.result (c.fold_of-partial.ensures.value ∙ ap (λ ts. g.M.Partial.of_values (values_of ts)) own)
          ∙ ap (map (partial_of g.M.Partial.of_values)) (sym c.enter.ensures.slices)
          ∙ ap (λ (r : Sliced). map (partial_of g.M.Partial.of_values) r.slices) (sym c.fold_of-partial.ensures.kept);
      room = omega (arith, c.enter.ensures.spare, ap (λ (r : Sliced). r.spare) c.fold_of-partial.ensures.kept);
      spare = omega (arith, c.set.ensures.keeps.spare);
      reach = omega (arith, c.set.ensures.keeps.reach);
    }

pub returns-clause-cost : goal.returns-clause-cost
returns-clause-cost g c =
    let runs = c.args.runs.now.slices in
    let l : c.args.at < length runs = omega (arith, c.requires.may.can.within) in
    let own = ap (λ rs. get_or rs c.args.at []) c.enter.ensures.slices ∙ entered_there runs c.args.at (c.args.at + 1) c.args.x refl l in
    omega (arith, c.fold_of-partial.ensures.cost, ap length own, refolded_length runs c.args.at (c.args.at + 1) c.args.x refl l, c.set.ensures.cost)

pub returns-clause-near : goal.returns-clause-near
returns-clause-near g c =
    let runs = c.args.runs.now.slices in
    let l : c.args.at < length runs = omega (arith, c.requires.may.can.within) in
    let own = ap (λ rs. get_or rs c.args.at []) c.enter.ensures.slices ∙ entered_there runs c.args.at (c.args.at + 1) c.args.x refl l in
    let behind : distance c.slice-low.result.low c.args.partials.now.pairs ≡ length runs - (c.args.at + 1) =
    ap (λ (s : Slice). distance s.low c.args.partials.now.pairs) c.slice-low.ensures.shown
    ∙ ap (distance (first_time (get_or runs c.args.at []))) c.requires.may.stand
    ∙ partial_behind g.M.Partial.of_values runs c.args.at l c.slice-low.ensures.holds.ordered in
    spends_more g.T.AggTree.near _ (length runs - (c.args.at + 1)) c.args.partials.now.reach 0 (length (get_or runs c.args.at []) + 1) _ _ _ c.set.ensures.near (omega (arith, behind))
    (omega (arith, c.fold_of-partial.ensures.cost, ap length own, put_length (get_or runs c.args.at []) c.args.x))
