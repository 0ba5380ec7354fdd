-- The store and the parts took the mark in, and go on to stand for the key where settled slices leave.
use Rattle.std.proofs.Common.{◌≡◌, ◌-◌, length, vec_len, arith, refl, rules, nat_cmp}
use Rattle.std.specs.BTreeSet.{insert_key}
use Rattle.std.specs.List.{enumerate_from, flat_map}
use Rattle.stream_base.specs.Model.Changes.{changes_between}
use Rattle.stream_base.specs.Model.Moments.{moment}
use Rattle.window_laws.specs.After.{with_mark}
use Rattle.key_slicer.specs.Parts.{turns}
use Rattle.key_slicer.specs.States.{StandsFor}
use Rattle.key_slicer.specs.Work.{mark_work}
use Rattle.key_slicer.proofs.StateFacts.{mark_step, stands_marked}
use Rattle.key_slicer.proofs.SortFacts.{appended_sorted, as_many_turns}
use Rattle.key_slicer.proofs.Loops.{grown}
use Rattle.key_slicer.proofs.WorkFacts.{mark_cost, mark_is_bounded}
use Rattle.key_slicer.proofs.engine.KeyStateKeyWindows.mark.Goals as goal

pub purge-requires : goal.purge-requires
purge-requires g c =
    let r = c.requires.stands in
    let s = c.args.self.now in
    let d = c.args.defs.now in
    let m = moment r.0 r.1 c.args.water in
    let f = r.2.known in
    let step = mark_step g.P.KeyPart.stands d m s.next s.store s.parts.list.items c.args.time c.mark.new.self f c.requires.in_time.within c.requires.in_time.accepted
    c.mark.ensures.tuples c.mark.ensures.slices c.mark.ensures.sliced c.mark.ensures.marks c.mark.ensures.dropped in
    let marked : StandsFor g.P.KeyPart.stands d (with_mark m c.args.time) s.next c.mark.new.self c.mark-2.new.self.list.items =
    stands_marked g.P.KeyPart.stands d m s.next f.without s.store c.args.time c.mark.new.self c.mark-2.new.self.list.items f.lists step
    (c.mark-2.ensures.stands m f.without s.store (record { water_is = refl; is_water = c.requires.ready.water_is; step = step; stood = f.stood })) f.bare in
    record { is_water = c.requires.ready.water_is; key = (r.0, insert_key nat_cmp r.1 c.args.time, marked) }

pub returns-clause-taken : goal.returns-clause-taken
returns-clause-taken g c = record {
  key = search rules;
  next = search rules;
  changes = λ kept marks fits.
      let s = c.args.self.now in
      let d = c.args.defs.now in
      let m = moment kept marks c.args.water in
      let f = fits.known in
      let step = mark_step g.P.KeyPart.stands d m s.next s.store s.parts.list.items c.args.time c.mark.new.self f c.requires.in_time.within c.requires.in_time.accepted
      c.mark.ensures.tuples c.mark.ensures.slices c.mark.ensures.sliced c.mark.ensures.marks c.mark.ensures.dropped in
      appended_sorted s.key m (with_mark m c.args.time) d.windows s.scratch.items c.mark-2.new.out.items c.as_slice.result.now c.args.out.now.items c.append_sorted.new.out.items c.requires.ready.empty
      (c.mark-2.ensures.changes m f.without s.store (record { water_is = refl; is_water = c.requires.ready.water_is; step = step; stood = f.stood })) c.as_slice.ensures.value c.append_sorted.ensures.items;
  capacity = c.append_sorted.ensures.capacity;
  fits = λ kept marks fits.
      let s = c.args.self.now in
      let d = c.args.defs.now in
      let m = moment kept marks c.args.water in
      let f = fits.known in
      let step = mark_step g.P.KeyPart.stands d m s.next s.store s.parts.list.items c.args.time c.mark.new.self f c.requires.in_time.within c.requires.in_time.accepted
      c.mark.ensures.tuples c.mark.ensures.slices c.mark.ensures.sliced c.mark.ensures.marks c.mark.ensures.dropped in
      let marked : StandsFor g.P.KeyPart.stands d (with_mark m c.args.time) s.next c.mark.new.self c.mark-2.new.self.list.items =
      stands_marked g.P.KeyPart.stands d m s.next f.without s.store c.args.time c.mark.new.self c.mark-2.new.self.list.items f.lists step
      (c.mark-2.ensures.stands m f.without s.store (record { water_is = refl; is_water = c.requires.ready.water_is; step = step; stood = f.stood })) f.bare in
      c.purge.ensures.fits kept (insert_key nat_cmp marks c.args.time) marked;
}

pub returns-clause-work : goal.returns-clause-work
returns-clause-work g c = λ kept marks fits.
    let s = c.args.self.now in
    let d = c.args.defs.now in
    let m = moment kept marks c.args.water in
    let f = fits.known in
    let step = mark_step g.P.KeyPart.stands d m s.next s.store s.parts.list.items c.args.time c.mark.new.self f c.requires.in_time.within c.requires.in_time.accepted
    c.mark.ensures.tuples c.mark.ensures.slices c.mark.ensures.sliced c.mark.ensures.marks c.mark.ensures.dropped in
    let changed = vec_len c.mark-2.new.out - vec_len s.scratch in
    let many : changed ≡ length (changes_between d.windows s.key m (with_mark m c.args.time)) = omega (arith, as_many_turns s.key m (with_mark m c.args.time) d.windows, grown s.scratch.items c.mark-2.new.out.items (flat_map (turns s.key m (with_mark m c.args.time)) (enumerate_from 0 d.windows)) (c.mark-2.ensures.changes m f.without s.store (record { water_is = refl; is_water = c.requires.ready.water_is; step = step; stood = f.stood }))) in
    mark_cost d s.key m (with_mark m c.args.time) c.args.time s.store c.mark.new.self c.purge.new.self.store changed c.args.steps.now c.mark.new.steps c.mark-2.new.steps c.purge.new.steps
    c.mark.ensures.cost c.mark-2.ensures.cost.work c.purge.ensures.work c.mark.ensures.reach many c.mark.ensures.slices

pub returns-clause-bound : goal.returns-clause-bound
returns-clause-bound g c = λ kept marks fits.
    let s = c.args.self.now in
    let d = c.args.defs.now in
    let m = moment kept marks c.args.water in
    let then_ = (returns-clause-taken g c).fits kept marks fits in (
      mark_work d s.key m (with_mark m c.args.time) c.args.time s.store c.purge.new.self.store,
      mark_is_bounded g.T.AggTree.bounded d s.key m fits.known.without c.args.time s.store fits.known.held fits.known.store fits.none_settled c.requires.ready.reach (with_mark m c.args.time) then_.known.without c.purge.new.self.store then_.known.held then_.known.store then_.none_settled,
      returns-clause-work g c kept marks fits,
    )

pub returns-clause-pace : goal.returns-clause-pace
returns-clause-pace g c = record {
  credit = search rules;
  ahead = λ le each.
      let r = c.requires.stands in
      let s = c.args.self.now in
      let d = c.args.defs.now in
      let m = moment r.0 r.1 c.args.water in
      let f = r.2.known in
      let step = mark_step g.P.KeyPart.stands d m s.next s.store s.parts.list.items c.args.time c.mark.new.self f c.requires.in_time.within c.requires.in_time.accepted
      c.mark.ensures.tuples c.mark.ensures.slices c.mark.ensures.sliced c.mark.ensures.marks c.mark.ensures.dropped in
      c.purge.ensures.ahead (c.mark-2.ensures.ahead m f.without s.store (record { water_is = refl; is_water = c.requires.ready.water_is; step = step; stood = f.stood }) le each);
}
