-- The partial of the slice goes under the tuple's time, combined with the tuple before it.
use Rattle.std.proofs.Common.{◌≡◌, ◌∙◌, ◌<◌, ◌+◌, [], ◌∷◌, ◌++◌, Some, ap, sym, map, refl, arith, length, get_or}
use Rattle.std.specs.Prelude.{FitsSigned}
use Rattle.std.specs.Int.{w64}
use Rattle.std.proofs.lemmas.List.Elements.{All-cons, All-nil}
use Rattle.stream_base.specs.Model.Windows.{first_time}
use Rattle.aggregates.proofs.Partials.{joined_partials}
use Rattle.agg_laws.specs.Pairs.{has_key, inserted, value_at, without}
use Rattle.slice_lists.specs.declared.slice.Slice.{Slice}
use Rattle.slice_lists.specs.Slices.{values_of}
use Rattle.agg_store.specs.Stored.{partial_of}
use Rattle.slice_store.proofs.PartialFacts.{fronted_absent, fronted_there, partial_found}
use Rattle.slice_lists.proofs.SliceFacts.{values_at}
use Rattle.slice_store.proofs.CountFacts.{few_slices}
use Rattle.slice_store.proofs.entering.front.Goals as goal

pub overflow_add-at : goal.overflow_add-at
overflow_add-at g c = omega (arith, c.requires.may.can.within, few_slices c.args.runs.now.slices c.requires.may.holds)

pub insert-requires-clause-absent : goal.insert-requires-clause-absent
insert-requires-clause-absent g c =
    let runs = c.args.runs.now.slices in
    let l : c.args.at < length runs = omega (arith, c.requires.may.can.within) in
    ap (has_key (c.args.x).time) c.take-own.ensures.pairs
    ∙ (λ i. has_key (c.args.x).time (without (ap (λ (s : Slice). s.low) c.slice-low.ensures.shown i) (c.requires.may.stand i)))
    ∙ fronted_absent g.M.Partial.of_values runs c.args.at (c.args.at + 1) c.args.x c.slice-low.ensures.holds.ordered c.requires.may.can.ordered refl l c.requires.early

pub returns-clause-follow : goal.returns-clause-follow
returns-clause-follow g c =
    let runs = c.args.runs.now.slices in
    let p = get_or runs c.args.at [] in
    let l : c.args.at < length runs = omega (arith, c.requires.may.can.within) in
    let found : value_at c.slice-low.result.low c.args.partials.now.pairs ≡ Some (g.M.Partial.of_values (values_of p)) =
    ap (λ (s : Slice). value_at s.low c.args.partials.now.pairs) c.slice-low.ensures.shown
    ∙ ap (value_at (first_time p)) c.requires.may.stand
    ∙ partial_found g.M.Partial.of_values runs c.args.at l c.slice-low.ensures.holds.ordered in
    let own : c.take-own.result ≡ g.M.Partial.of_values (values_of p) = c.take-own.ensures.value (g.M.Partial.of_values (values_of p)) found in
    let both : c.combine-partial.result ≡ g.M.Partial.of_values (((c.args.x).value ∷ []) ++ values_of p) =
    joined_partials g.met.M.Partial.partial _ _ _ c.combine-partial.ensures.value ((c.args.x).value ∷ []) (values_of p) (All-cons (FitsSigned w64) (c.args.x).value [] c.requires.may.can.value (All-nil (FitsSigned w64))) (values_at runs c.args.at l c.slice-low.ensures.holds) c.lifted.ensures own in
    record {
      slices = c.enter.ensures.slices;
      holds = c.enter.ensures.holds;
      stand = c.insert.ensures.inserted
          ∙ ap (inserted (c.args.x).time c.combine-partial.result) c.take-own.ensures.pairs
          ∙ (λ i. inserted (c.args.x).time c.combine-partial.result (without (ap (λ (s : Slice). s.low) c.slice-low.ensures.shown i) (c.requires.may.stand i)))
          ∙ fronted_there g.M.Partial.of_values runs c.args.at (c.args.at + 1) c.args.x c.slice-low.ensures.holds.ordered c.requires.may.can.ordered refl l c.requires.early c.combine-partial.result both
          ∙ ap (map (partial_of g.M.Partial.of_values)) (sym c.enter.ensures.slices);
      room = c.enter.ensures.spare;
      spare = omega (arith, c.take-own.ensures.keeps.spare, c.insert.ensures.spare);
      reach = omega (arith, c.take-own.ensures.keeps.reach, c.insert.ensures.reach);
    }
