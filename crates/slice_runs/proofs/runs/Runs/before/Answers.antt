-- The slices show in order.
use Rattle.std.proofs.Common.{◌∙◌, sym, subst}
use Rattle.std.specs.List.Sorted.{IsNonDecreasingBy}
use Rattle.slice_lists.specs.declared.slice.Slice.{Slice}
use Rattle.slice_lists.specs.Parted.{parted_by}
use Rattle.slice_lists.specs.Slices.{slice_of}
use Rattle.slice_lists.proofs.PlaceFacts.{place_of_map}
use Rattle.slice_lists.proofs.SliceEdits.{lows_rise}
use Rattle.slice_runs.proofs.runs.Runs.before.Goals as goal

pub slices_before-requires : goal.slices_before-requires
slices_before-requires c =
    let a = c.self.inside in
    subst (IsNonDecreasingBy (λ (s : Slice). s.low)) (sym c.self.invariant.parted.shown ∙ sym c.deref.ensures.value) (lows_rise (parted_by a.bounds.items a.tuples.tuples) c.self.invariant.parted.hold.ordered)

pub returns : goal.returns
returns c =
    let a = c.self.inside in
    rw (← c.self.view_is)
    (record {
      place = place_of_map (λ (s : Slice). s.low) slice_of (parted_by a.bounds.items a.tuples.tuples) c.deref.result.now c.args.time c.slices_before.result (c.deref.ensures.value ∙ c.self.invariant.parted.shown) c.slices_before.ensures;
      holds = c.self.invariant.parted.hold;
    })
