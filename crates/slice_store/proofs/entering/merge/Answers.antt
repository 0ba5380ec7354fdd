-- The partials of both slices are combined, with the tuple between them.
use Rattle.std.proofs.Common.{◌≡◌, ◌∙◌, ◌<◌, ◌+◌, suc, [], ◌∷◌, ◌++◌, Some, ap, sym, map, refl, arith, length, get_or}
use Rattle.std.specs.Prelude.{FitsSigned}
use Rattle.std.specs.Int.{w64}
use Rattle.std.specs.List.{All}
use Rattle.std.proofs.lemmas.List.Elements.{All-append, All-cons, All-nil}
use Rattle.stream_base.specs.Model.Windows.{first_time}
use Rattle.aggregates.proofs.Partials.{joined_partials}
use Rattle.agg_laws.specs.Pairs.{has_key, replaced, value_at, without}
use Rattle.slice_lists.specs.declared.slice.Slice.{Slice}
use Rattle.slice_lists.specs.Slices.{slice_of, values_of}
use Rattle.agg_store.specs.Stored.{partial_of}
use Rattle.slice_lists.proofs.SliceFacts.{values_at}
use Rattle.slice_store.proofs.PartialFacts.{merged_is, merged_there, partial_found, slice_is_value}
use Rattle.slice_store.proofs.CountFacts.{few_slices}
use Rattle.slice_store.proofs.entering.merge.Goals as goal

pub overflow_add-at : goal.overflow_add-at
overflow_add-at g c = omega (arith, c.requires.can.within, few_slices c.args.runs.now.slices c.requires.holds)

pub overflow_add-at-2 : goal.overflow_add-at-2
overflow_add-at-2 g c = omega (arith, c.requires.can.within, few_slices c.args.runs.now.slices c.requires.holds)

pub set-requires : goal.set-requires
set-requires g c =
    let runs = c.args.runs.now.slices in
    let l : suc c.args.at < length runs = omega (arith, c.requires.can.within) in
    let next : c.slice-next.result ≡ slice_of (get_or runs (suc c.args.at) []) = c.slice-next.ensures.shown ∙ ap (λ n. slice_of (get_or runs n [])) (let e : c.args.at + 1 ≡ suc c.args.at = omega arith in e) in
    ap (has_key c.slice-low.result.low) c.take-right.ensures.pairs
    ∙ (λ i. has_key (ap (λ (s : Slice). s.low) c.slice-low.ensures.shown i) (without (ap (λ (s : Slice). s.low) next i) (c.requires.stand i)))
    ∙ merged_there g.M.Partial.of_values runs c.args.at (c.args.at + 2) c.args.x c.slice-low.ensures.holds.ordered c.requires.can.ordered refl l

pub returns-clause-follow : goal.returns-clause-follow
returns-clause-follow g c =
    let runs = c.args.runs.now.slices in
    let p = get_or runs c.args.at [] in
    let q = get_or runs (suc c.args.at) [] in
    let holds = c.slice-low.ensures.holds in
    let l : suc c.args.at < length runs = omega (arith, c.requires.can.within) in
    let m : c.args.at < length runs = omega (arith, c.requires.can.within) in
    let next : c.slice-next.result ≡ slice_of q = c.slice-next.ensures.shown ∙ ap (λ n. slice_of (get_or runs n [])) (let e : c.args.at + 1 ≡ suc c.args.at = omega arith in e) in
    let found : value_at c.slice-low.result.low c.args.partials.now.pairs ≡ Some (g.M.Partial.of_values (values_of p)) =
    ap (λ (s : Slice). value_at s.low c.args.partials.now.pairs) c.slice-low.ensures.shown
    ∙ ap (value_at (first_time p)) c.requires.stand
    ∙ partial_found g.M.Partial.of_values runs c.args.at m holds.ordered in
    let left : c.read-left.result ≡ g.M.Partial.of_values (values_of p) = c.read-left.ensures.value (g.M.Partial.of_values (values_of p)) (slice_is_value g.met.M.Partial.partial runs c.args.at m holds) found in
    let found_next : value_at c.slice-next.result.low c.args.partials.now.pairs ≡ Some (g.M.Partial.of_values (values_of q)) =
    ap (λ (s : Slice). value_at s.low c.args.partials.now.pairs) next
    ∙ ap (value_at (first_time q)) c.requires.stand
    ∙ partial_found g.M.Partial.of_values runs (suc c.args.at) l holds.ordered in
    let right : c.take-right.result ≡ g.M.Partial.of_values (values_of q) = c.take-right.ensures.value (g.M.Partial.of_values (values_of q)) found_next in
    let fits_x : All (FitsSigned w64) ((c.args.x).value ∷ []) = All-cons (FitsSigned w64) (c.args.x).value [] c.requires.can.value (All-nil (FitsSigned w64)) in
    let longer : c.combine-longer.result ≡ g.M.Partial.of_values (values_of p ++ (c.args.x).value ∷ []) =
    joined_partials g.met.M.Partial.partial _ _ _ c.combine-longer.ensures.value (values_of p) ((c.args.x).value ∷ []) (values_at runs c.args.at m holds) fits_x left c.lifted.ensures in
    let both : c.combine-partial.result ≡ g.M.Partial.of_values ((values_of p ++ (c.args.x).value ∷ []) ++ values_of q) =
    joined_partials g.met.M.Partial.partial _ _ _ c.combine-partial.ensures.value (values_of p ++ (c.args.x).value ∷ []) (values_of q) (All-append (FitsSigned w64) (values_of p) ((c.args.x).value ∷ []) (values_at runs c.args.at m holds) fits_x) (values_at runs (suc c.args.at) l holds) longer right in
    let between = c.requires.can.between refl in
    record {
      slices = c.enter.ensures.slices;
      holds = c.enter.ensures.holds;
      stand = c.set.ensures.replaced
          ∙ ap (replaced c.slice-low.result.low c.combine-partial.result) c.take-right.ensures.pairs
          ∙ (λ i. replaced (ap (λ (s : Slice). s.low) c.slice-low.ensures.shown i) c.combine-partial.result (without (ap (λ (s : Slice). s.low) next i) (c.requires.stand i)))
          ∙ merged_is g.M.Partial.of_values runs c.args.at (c.args.at + 2) c.args.x holds.ordered c.requires.can.ordered refl l between.0 between.1 c.combine-partial.result both
          ∙ ap (map (partial_of g.M.Partial.of_values)) (sym c.enter.ensures.slices);
      room = c.enter.ensures.spare;
      spare = omega (arith, c.take-right.ensures.keeps.spare, c.set.ensures.keeps.spare);
      reach = omega (arith, c.take-right.ensures.keeps.reach, c.set.ensures.keeps.reach);
    }
