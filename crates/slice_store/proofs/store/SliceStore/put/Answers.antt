-- The slices that the tuple is near to become one with it.
use Rattle.std.proofs.Common.{◌∙◌, ap, arith, refl, rules, take, drop}
use Rattle.stream_base.specs.declared.kept.Kept.{Kept}
use Rattle.stream_base.specs.Model.Cuts.{has_cut}
use Rattle.slice_lists.specs.Sides.{IsLastEntered}
use Rattle.slice_store.proofs.PutCosts.{near_put}
use Rattle.slice_store.specs.Placing.{placed_in}
use Rattle.slice_lists.proofs.NearFacts.{IsEdit}
use Rattle.slice_lists.proofs.PutFacts.{can_enter, edit_at, is_then, near_joined, near_length, sliced_again, tuples_with, was_before}
use Rattle.slice_store.proofs.store.SliceStore.put.Goals as goal

pub enter-requires : goal.enter-requires
enter-requires g c =
    let s = c.self.inside in
    let from = c.first_entered-from.result in
    let to = c.last_entered-to.result in
    let x : Kept = c.args.x in
    let e : IsEdit c.args.defs.now.windows s.marks.times s.runs.slices from to x =
    edit_at c.args.defs.now s.marks.times s.marks.times s.marks.times s.runs.slices x c.up_to-at.result from to c.windows-windows.ensures.limits c.up_to-at.ensures.holds ((rw (← c.self.view_is) at c.requires).sliced) c.up_to-at.ensures.place refl refl (rw c.windows-windows.ensures.value at c.first_entered-from.ensures) (rw c.windows-windows.ensures.value at c.last_entered-to.ensures) in
    record {
      holds = c.up_to-at.ensures.holds;
      can = can_enter c.args.defs.now.windows s.marks.times s.runs x from to
          e
          (let may = rw (← c.self.view_is) at c.requires in omega (arith, may.room))
          c.requires.time
          (search rules);
      spare = (let may = rw (← c.self.view_is) at c.requires in omega (arith, may.room));
      stand = c.self.invariant.partials;
    }

pub returns-clause-sliced : goal.returns-clause-sliced
returns-clause-sliced g c =
    let s = c.self.inside in
    let from = c.first_entered-from.result in
    let to = c.last_entered-to.result in
    let x : Kept = c.args.x in
    let e : IsEdit c.args.defs.now.windows s.marks.times s.runs.slices from to x =
    edit_at c.args.defs.now s.marks.times s.marks.times s.marks.times s.runs.slices x c.up_to-at.result from to c.windows-windows.ensures.limits c.up_to-at.ensures.holds ((rw (← c.self.view_is) at c.requires).sliced) c.up_to-at.ensures.place refl refl (rw c.windows-windows.ensures.value at c.first_entered-from.ensures) (rw c.windows-windows.ensures.value at c.last_entered-to.ensures) in
    sliced_again c.args.defs.now.windows s.marks.times s.runs.slices c.enter.new.runs.slices x x from to e refl c.enter.ensures.follow.slices

pub returns-clause-tuples : goal.returns-clause-tuples
returns-clause-tuples g c =
    let s = c.self.inside in
    let from = c.first_entered-from.result in
    let to = c.last_entered-to.result in
    let x : Kept = c.args.x in
    let e : IsEdit c.args.defs.now.windows s.marks.times s.runs.slices from to x =
    edit_at c.args.defs.now s.marks.times s.marks.times s.marks.times s.runs.slices x c.up_to-at.result from to c.windows-windows.ensures.limits c.up_to-at.ensures.holds ((rw (← c.self.view_is) at c.requires).sliced) c.up_to-at.ensures.place refl refl (rw c.windows-windows.ensures.value at c.first_entered-from.ensures) (rw c.windows-windows.ensures.value at c.last_entered-to.ensures) in
    rw (← c.self.view_is) (tuples_with c.args.defs.now.windows s.marks.times s.runs.slices c.enter.new.runs.slices x x from to e refl c.enter.ensures.follow.slices)

pub returns-clause-put : goal.returns-clause-put
returns-clause-put g c =
    let s = c.self.inside in
    let from = c.first_entered-from.result in
    let to = c.last_entered-to.result in
    let x : Kept = c.args.x in
    let e : IsEdit c.args.defs.now.windows s.marks.times s.runs.slices from to x =
    edit_at c.args.defs.now s.marks.times s.marks.times s.marks.times s.runs.slices x c.up_to-at.result from to c.windows-windows.ensures.limits c.up_to-at.ensures.holds ((rw (← c.self.view_is) at c.requires).sliced) c.up_to-at.ensures.place refl refl (rw c.windows-windows.ensures.value at c.first_entered-from.ensures) (rw c.windows-windows.ensures.value at c.last_entered-to.ensures) in
    rw (← c.self.view_is)
    (record {
      before = take from s.runs.slices;
      behind = drop to s.runs.slices;
      was = was_before c.args.defs.now.windows s.marks.times s.runs.slices c.enter.new.runs.slices x x from to e refl c.enter.ensures.follow.slices;
      is = is_then c.args.defs.now.windows s.marks.times s.runs.slices c.enter.new.runs.slices x x from to e refl c.enter.ensures.follow.slices;
    })

pub returns-clause-answer : goal.returns-clause-answer
returns-clause-answer g c =
    let s = c.self.inside in
    let from = c.first_entered-from.result in
    let to = c.last_entered-to.result in
    let x : Kept = c.args.x in
    let e : IsEdit c.args.defs.now.windows s.marks.times s.runs.slices from to x =
    edit_at c.args.defs.now s.marks.times s.marks.times s.marks.times s.runs.slices x c.up_to-at.result from to c.windows-windows.ensures.limits c.up_to-at.ensures.holds ((rw (← c.self.view_is) at c.requires).sliced) c.up_to-at.ensures.place refl refl (rw c.windows-windows.ensures.value at c.first_entered-from.ensures) (rw c.windows-windows.ensures.value at c.last_entered-to.ensures) in
    rw (← c.self.view_is)
    (c.placed_in.ensures _ (near_length c.args.defs.now.windows s.marks.times s.runs.slices x from to e)
    ∙ ap (placed_in _) c.are_by-last.ensures)

pub returns-clause-cost : goal.returns-clause-cost
returns-clause-cost g c =
    let s = c.self.inside in
    let from = c.first_entered-from.result in
    let to = c.last_entered-to.result in
    let x : Kept = c.args.x in
    let e : IsEdit c.args.defs.now.windows s.marks.times s.runs.slices from to x =
    edit_at c.args.defs.now s.marks.times s.marks.times s.marks.times s.runs.slices x c.up_to-at.result from to c.windows-windows.ensures.limits c.up_to-at.ensures.holds ((rw (← c.self.view_is) at c.requires).sliced) c.up_to-at.ensures.place refl refl (rw c.windows-windows.ensures.value at c.first_entered-from.ensures) (rw c.windows-windows.ensures.value at c.last_entered-to.ensures) in
    rw (← c.self.view_is)
    (omega (arith, c.enter.ensures.cost, near_joined c.args.defs.now.windows s.marks.times s.runs.slices x from to e))

pub returns-clause-near : goal.returns-clause-near
returns-clause-near g c =
    let s = c.self.inside in
    let from = c.first_entered-from.result in
    let to = c.last_entered-to.result in
    let x : Kept = c.args.x in
    let last : IsLastEntered (has_cut c.args.defs.now.windows s.marks.times) s.runs.slices c.up_to-at.result c.args.x.time to = rw c.windows-windows.ensures.value at c.last_entered-to.ensures in
    let e : IsEdit c.args.defs.now.windows s.marks.times s.runs.slices from to x =
    edit_at c.args.defs.now s.marks.times s.marks.times s.marks.times s.runs.slices x c.up_to-at.result from to c.windows-windows.ensures.limits c.up_to-at.ensures.holds ((rw (← c.self.view_is) at c.requires).sliced) c.up_to-at.ensures.place refl refl (rw c.windows-windows.ensures.value at c.first_entered-from.ensures) last in
    rw (← c.self.view_is)
    (near_put g.T.AggTree.near c.args.defs.now.windows s.marks.times s.runs.slices x c.up_to-at.result from to s.partials.reach _ _ e c.up_to-at.ensures.place last
    c.enter.ensures.near)
