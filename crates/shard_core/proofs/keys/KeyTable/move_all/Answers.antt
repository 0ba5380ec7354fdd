-- One state more is moved.
use Rattle.std.proofs.Common.{◌≡◌, ◌≤◌, ◌∙◌, ◌<◌, ◌++◌, ap, arith, get_or, length, subst, sym, take}
use Rattle.std.specs.List.{flat_map}
use Rattle.std.proofs.lemmas.List.{take_all}
use Rattle.std.proofs.lemmas.List.Sums.{sum_by-drop_more}
use Rattle.shard_core.specs.declared.slot.Slot.{Slot}
use Rattle.shard_core.specs.Engines.{AreMovedWithin, HasLists, StandsIn, moves_of}
use Rattle.shard_core.specs.Told.{spare_of}
use Rattle.shard_core.proofs.Loops.{one_moved, one_moved_within}
use Rattle.shard_core.proofs.keys.KeyTable.move_all.Goals as goal

pub move_at-requires-clause-spare : goal.move_at-requires-clause-spare
move_at-requires-clause-spare g c x =
    let promised = g.K.KeyWindows.promised in
    let i = c.loop-place.place-index in
    let places = c.args.places.now in
    let within : i < length places = omega arith in
    let m = c.loop-place.invariant.1 in
    let same : promised (get_or c.loop-place.self.slots.items (get_or places i 0) x).state ≡ promised (get_or c.args.self.now.slots.items (get_or places i 0) x).state =
    ap (λ (s : Slot g.row.K.Denot). promised s.state) (m.outside (get_or places i 0) x (λ j jl. c.requires.movable.apart j i jl within)) in
    omega (arith, same, m.room x, sum_by-drop_more (λ p. promised (get_or c.args.self.now.slots.items p x).state) places i 0 within)

pub move_at-requires-clause-movable : goal.move_at-requires-clause-movable
move_at-requires-clause-movable g c =
    let i = c.loop-place.place-index in
    let places = c.args.places.now in
    let within : i < length places = omega arith in
    let m = c.loop-place.invariant.1 in
    let untouched = λ (x : Slot g.row.K.Denot). m.outside (get_or places i 0) x (λ j jl. c.requires.movable.apart j i jl within) in
    record {
      within = omega (arith, c.requires.movable.within i within, m.as_many);
      stands = λ x. subst (λ (s : Slot g.row.K.Denot). HasLists g.K.KeyWindows.fits c.args.defs.now s) (sym (untouched x)) (c.requires.movable.stand i within x);
      rises = λ x. subst (λ (s : Slot g.row.K.Denot). s.water ≤ c.args.new) (sym (untouched x)) (c.requires.movable.rises i within x);
      is_water = c.requires.movable.is_water;
    }

pub loop-place-preserved : goal.loop-place-preserved
loop-place-preserved g c =
    let i = c.loop-place.place-index in
    let places = c.args.places.now in
    let within : i < length places = omega arith in (
      c.move_at.ensures.table.index ∙ c.loop-place.invariant.0,
      one_moved g.K.KeyWindows.key_of g.K.KeyWindows.fits g.K.KeyWindows.next_position c.args.defs.now (g.K.KeyWindows.is_ready c.args.defs.now) g.K.KeyWindows.promised c.args.new places i
          c.args.self.now.slots.items c.loop-place.self.slots.items c.move_at.new.self.slots.items c.args.self.now.dues.items c.loop-place.self.dues.items c.move_at.new.self.dues.items c.args.told.now.log.items c.loop-place.told.log.items c.move_at.new.told.log.items
          (spare_of c.loop-place.told) (spare_of c.move_at.new.told)
          within c.requires.movable.apart c.loop-place.invariant.1 c.move_at.ensures.table.as_many c.move_at.ensures.table.as_many_dues c.move_at.ensures.others c.move_at.ensures.other_dues c.move_at.ensures.moved c.move_at.ensures.changes
          c.move_at.ensures.added,
      (λ z. absurd (omega arith)),
      c.move_at.ensures.settled,
      (λ z. absurd (omega arith)),
      (λ x kept marks each.
          let untouched = c.loop-place.invariant.1.outside (get_or places i 0) x (λ j jl. c.requires.movable.apart j i jl within) in
          one_moved_within g.K.KeyWindows.bounds_move g.K.KeyWindows.key_of c.args.defs.now kept marks c.args.new c.args.self.now.slots.items x places i c.loop-place.self.slots.items c.args.steps.now c.loop-place.steps c.move_at.new.steps
          untouched (c.loop-place.invariant.5 x kept marks each)
          (c.move_at.ensures.bound x kept marks (subst (StandsIn g.K.KeyWindows.key_of g.K.KeyWindows.fits c.args.defs.now kept marks) (sym untouched) (each i within)))),
    )

pub returns-clause-changes : goal.returns-clause-changes
returns-clause-changes g c x kept marks each =
    let places = c.args.places.now in
    let all : take c.loop-place.place-index places ≡ places = take_all c.loop-place.place-index places (omega arith) in
    c.loop-place.invariant.1.changes x kept marks each
    ∙ ap (λ ps. c.args.told.now.log.items ++ flat_map (λ p. moves_of g.K.KeyWindows.key_of c.args.defs.now kept marks c.args.new (get_or c.args.self.now.slots.items p x)) ps) all

pub returns-clause-bound : goal.returns-clause-bound
returns-clause-bound g c x kept marks each =
    let places = c.args.places.now in
    let all : c.loop-place.place-index ≡ length places = omega arith in
    subst (λ n. AreMovedWithin g.K.KeyWindows.bounds_move g.K.KeyWindows.key_of c.args.defs.now kept marks c.args.new c.args.self.now.slots.items x places n c.args.steps.now c.loop-place.steps) all (c.loop-place.invariant.5 x kept marks each)
