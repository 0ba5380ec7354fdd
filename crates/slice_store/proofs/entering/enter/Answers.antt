-- A tuple that is the last of all isn't before the end of its slice.
use Rattle.std.proofs.Common.{◌<◌, ap, arith, length}
use Rattle.slice_lists.specs.declared.slice.Slice.{Slice}
use Rattle.slice_lists.proofs.SliceParts.{slice_ends}
use Rattle.slice_store.proofs.EnterFacts.{can_alone}
use Rattle.slice_store.proofs.entering.enter.Goals as goal

pub add-requires : goal.add-requires
add-requires g c = record {
  holds = c.requires.holds;
  can = can_alone c.args.from c.args.to c.args.x c.args.runs.now c.requires.can c.if-count-eq0.true;
  spare = c.requires.spare;
  stand = c.requires.stand;
}

pub returns-else-in_any_order-clause-in_order : goal.returns-else-in_any_order-clause-in_order
returns-else-in_any_order-clause-in_order g c = λ h.
    let runs = c.args.runs.now.slices in
    let l : c.args.from < length runs = omega (arith, c.requires.can.within) in
    let early : c.args.x.time < c.slice-slice.result.high = omega arith in
    absurd (omega (arith, h, slice_ends runs c.args.from l c.slice-slice.ensures.holds.ordered, ap (λ (s : Slice). s.high) c.slice-slice.ensures.shown, early))

pub returns-else-in_any_order-clause-behind : goal.returns-else-in_any_order-clause-behind
returns-else-in_any_order-clause-behind g c = λ l h.
    let early : c.args.x.time < c.slice-slice.result.high = omega arith in
    absurd (omega (arith, h, ap (λ (s : Slice). s.high) c.slice-slice.ensures.shown, early))
