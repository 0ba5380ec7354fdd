-- The partial of the slice is combined with the tuple, which comes behind the others or may come anywhere.
use Rattle.std.proofs.Common.{◌≡◌, ◌∙◌, ◌<◌, ◌+◌, ◌-◌, [], Some, ap, sym, map, refl, arith, length, get_or}
use Rattle.stream_base.specs.Model.Journal.{put_in_order}
use Rattle.stream_base.specs.Model.Windows.{first_time}
use Rattle.agg_laws.specs.Pairs.{distance, has_key, replaced, value_at}
use Rattle.slice_lists.specs.declared.slice.Slice.{Slice}
use Rattle.slice_lists.specs.Slices.{values_of}
use Rattle.agg_store.specs.Stored.{partial_of}
use Rattle.slice_lists.proofs.SliceFacts.{run_of, values_at}
use Rattle.slice_store.proofs.PartialFacts.{partial_behind, partial_found, partial_there, refolded_there, slice_is_value}
use Rattle.slice_store.proofs.AnyOrder.{combined_once}
use Rattle.slice_store.proofs.CostFacts.{spends_more}
use Rattle.slice_store.proofs.CountFacts.{few_slices}
use Rattle.slice_store.proofs.entering.extend.Goals as goal

pub overflow_add-at : goal.overflow_add-at
overflow_add-at g c = omega (arith, c.requires.may.can.within, few_slices c.args.runs.now.slices c.requires.may.holds)

pub extend-requires : goal.extend-requires
extend-requires g c =
    let l : c.args.at < length c.args.runs.now.slices = omega (arith, c.requires.may.can.within) in
    ap (λ (s : Slice). has_key s.low c.args.partials.now.pairs) c.slice-low.ensures.shown
    ∙ ap (has_key (first_time (get_or c.args.runs.now.slices c.args.at []))) c.requires.may.stand
    ∙ partial_there g.M.Partial.of_values c.args.runs.now.slices c.args.at l c.slice-low.ensures.holds.ordered

pub returns-clause-follow : goal.returns-clause-follow
returns-clause-follow g c =
    let of_values = g.M.Partial.of_values in
    let op = g.M.Monoid.op in
    let runs = c.args.runs.now.slices in
    let p = get_or runs c.args.at [] in
    let x = c.args.x in
    let holds = c.slice-low.ensures.holds in
    let l : c.args.at < length runs = omega (arith, c.requires.may.can.within) in
    let found : value_at c.slice-low.result.low c.args.partials.now.pairs ≡ Some (of_values (values_of p)) =
    ap (λ (s : Slice). value_at s.low c.args.partials.now.pairs) c.slice-low.ensures.shown
    ∙ ap (value_at (first_time p)) c.requires.may.stand
    ∙ partial_found of_values runs c.args.at l holds.ordered in
    let both : op (of_values (values_of p)) c.lifted.result ≡ of_values (values_of (put_in_order p x)) =
    ap (op (of_values (values_of p))) c.lifted.ensures
    ∙ combined_once g.met.M.Partial.partial g.M.Partial.any_order g.met.M.Partial.commutes p x (run_of runs c.args.at l holds.ordered) (values_at runs c.args.at l holds) c.requires.may.can.value c.requires.behind in
    record {
      slices = c.enter.ensures.slices;
      holds = c.enter.ensures.holds;
      stand = c.extend.ensures.extended (of_values (values_of p)) (slice_is_value g.met.M.Partial.partial runs c.args.at l holds) found
          ∙ (λ i. replaced (ap (λ (s : Slice). s.low) c.slice-low.ensures.shown i) (op (of_values (values_of p)) c.lifted.result) (c.requires.may.stand i))
          ∙ refolded_there of_values runs c.args.at (c.args.at + 1) x holds.ordered c.requires.may.can.ordered refl l c.requires.late (op (of_values (values_of p)) c.lifted.result) both
          ∙ ap (map (partial_of of_values)) (sym c.enter.ensures.slices);
      room = c.enter.ensures.spare;
      spare = omega (arith, c.extend.ensures.keeps.spare);
      reach = omega (arith, c.extend.ensures.keeps.reach);
    }

pub returns-clause-near : goal.returns-clause-near
returns-clause-near g c =
    let runs = c.args.runs.now.slices in
    let l : c.args.at < length runs = omega (arith, c.requires.may.can.within) in
    let behind : distance c.slice-low.result.low c.args.partials.now.pairs ≡ length runs - (c.args.at + 1) =
    ap (λ (s : Slice). distance s.low c.args.partials.now.pairs) c.slice-low.ensures.shown
    ∙ ap (distance (first_time (get_or runs c.args.at []))) c.requires.may.stand
    ∙ partial_behind g.M.Partial.of_values runs c.args.at l c.slice-low.ensures.holds.ordered in
    spends_more g.T.AggTree.near _ (length runs - (c.args.at + 1)) c.args.partials.now.reach 2 2 _ _ _ c.extend.ensures.near (omega (arith, behind)) (omega arith)
