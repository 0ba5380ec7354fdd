-- The states that are due are moved, or the table stays.
use Rattle.std.proofs.Common.{◌≡◌, ◌∙◌, ◌≤◌, ℕ, List, ap, arith, length, rules, subst, sym}
use Rattle.stream_base.specs.Limits.{AreWithinLimits}
use Rattle.stream_base.specs.Model.Journal.{kept_of, marks_of}
use Rattle.stream_base.specs.Model.Watermark.{water_of}
use Rattle.model_laws.proofs.WatermarkFacts.{water_rises}
use Rattle.shard_core.specs.declared.keys.KeyTable.{KeyTable}
use Rattle.shard_core.specs.Engines.{AreCurrent, StandAt, due_places}
use Rattle.shard_core.proofs.Advance.{appended, due_are_places, due_movable, moved_table, moved_within, same_table}
use Rattle.shard_core.proofs.Loops.{still_stand}
use Rattle.shard_core.proofs.Places.{on_err}
use Rattle.shard_core.proofs.keys.KeyTable.advance.Goals as goal

pub due_places-requires : goal.due_places-requires
due_places-requires g c = c.requires.current.aligned ∙ c.requires.current.counted

-- the same places are due where the index and the due numbers are the same
same_places : {K : Type 0} (old new : KeyTable K) (water : ℕ) → new.index ≡ old.index → new.dues ≡ old.dues → due_places new water ≡ due_places old water
same_places old new water index dues = λ i. due_places (record { index = index i; slots = old.slots; dues = dues i }) water

pub catch_up_all-requires-clause-places : goal.catch_up_all-requires-clause-places
catch_up_all-requires-clause-places g c =
    let past = c.args.past.now in
    rw (c.as_slice-places.ensures.value, c.in_ok-due.ensures) (due_are_places g.K.KeyWindows.key_of g.K.KeyWindows.fits g.K.KeyWindows.next_position past.defs past.sources past.journal c.args.self.now c.requires.current c.args.new)

pub reserve_moves-requires : goal.reserve_moves-requires
reserve_moves-requires g c =
    let past = c.args.past.now in
    let caught = c.catch_up_all.new.self in
    let further : water_of past.sources past.journal ≤ c.args.new = rw c.requires.new (water_rises past.sources past.journal c.args.entry.now) in
    let places : c.as_slice-places.result.now ≡ due_places caught c.args.new = c.as_slice-places.ensures.value ∙ c.in_ok-due.ensures ∙ sym (same_places c.args.self.now caught c.args.new c.catch_up_all.ensures.table.index c.catch_up_all.ensures.table.dues) in
    rw (places, c.defs-defs.ensures.value) (due_movable g.K.KeyWindows.key_of g.K.KeyWindows.fits g.K.KeyWindows.next_position past.defs past.sources past.journal caught c.catch_up_all.ensures.current c.args.new further c.requires.water)

pub returns-in_err-room-clause-taken : goal.returns-in_err-room-clause-taken
returns-in_err-room-clause-taken g c =
    let past = c.args.past.now in
    record {
      taken = search rules;
      changes = search rules;
      refused = on_err c.from_residual-in_err-room.result
          (same_table g.K.KeyWindows.key_of g.K.KeyWindows.fits g.K.KeyWindows.next_position past.defs past.sources past.journal c.catch_up_all.new.self c.reserve_moves.new.self c.reserve_moves.ensures.table.index c.reserve_moves.ensures.table.dues (rw (← c.defs-defs.ensures.value) c.reserve_moves.ensures.same) c.catch_up_all.ensures.current);
      nothing = search rules;
      no_step = search rules;
    }

pub returns-in_err-reserve-clause-taken : goal.returns-in_err-reserve-clause-taken
returns-in_err-reserve-clause-taken g c =
    let past = c.args.past.now in
    record {
      taken = search rules;
      changes = search rules;
      refused = on_err c.from_residual-in_err-reserve.result
          (same_table g.K.KeyWindows.key_of g.K.KeyWindows.fits g.K.KeyWindows.next_position past.defs past.sources past.journal c.catch_up_all.new.self c.reserve_moves.new.self c.reserve_moves.ensures.table.index c.reserve_moves.ensures.table.dues (rw (← c.defs-defs.ensures.value) c.reserve_moves.ensures.same) c.catch_up_all.ensures.current);
      nothing = search rules;
      no_step = search rules;
    }

-- so they are where keys were caught up, and room was made
still_places : {K : Type 0} (old caught ready : KeyTable K) (places : List ℕ) (water : ℕ) → places ≡ due_places old water → caught.index ≡ old.index → caught.dues ≡ old.dues → ready.index ≡ caught.index → ready.dues ≡ caught.dues → places ≡ due_places ready water
still_places old caught ready places water is index dues index_then dues_then = is ∙ sym (same_places old caught water index dues) ∙ sym (same_places caught ready water index_then dues_then)

pub move_all-requires-clause-movable : goal.move_all-requires-clause-movable
move_all-requires-clause-movable g c =
    let key_of = g.K.KeyWindows.key_of in
    let fits = g.K.KeyWindows.fits in
    let next = g.K.KeyWindows.next_position in
    let past = c.args.past.now in
    let d = c.defs-defs.result.now in
    let old = c.args.self.now in
    let new = c.args.new in
    let caught = c.catch_up_all.new.self in
    let ready = c.reserve_moves.new.self in
    let further : water_of past.sources past.journal ≤ new = rw c.requires.new (water_rises past.sources past.journal c.args.entry.now) in
    let current : AreCurrent key_of fits next d past.sources past.journal ready =
    same_table key_of fits next d past.sources past.journal caught ready c.reserve_moves.ensures.table.index c.reserve_moves.ensures.table.dues c.reserve_moves.ensures.same (rw c.defs-defs.ensures.value c.catch_up_all.ensures.current) in
    let places : c.as_slice-places.result.now ≡ due_places ready new = still_places old caught ready c.as_slice-places.result.now new (c.as_slice-places.ensures.value ∙ c.in_ok-due.ensures) c.catch_up_all.ensures.table.index c.catch_up_all.ensures.table.dues c.reserve_moves.ensures.table.index c.reserve_moves.ensures.table.dues in
    rw places (due_movable key_of fits next d past.sources past.journal ready current new further c.requires.water)

pub move_all-requires-clause-spare : goal.move_all-requires-clause-spare
move_all-requires-clause-spare g c x = omega (arith, c.in_ok-room.ensures.room x, c.in_ok-reserve.ensures.room)

pub returns-clause-taken : goal.returns-clause-taken
returns-clause-taken g c =
    let key_of = g.K.KeyWindows.key_of in
    let fits = g.K.KeyWindows.fits in
    let next = g.K.KeyWindows.next_position in
    let past = c.args.past.now in
    let d = c.defs-defs.result.now in
    let old = c.args.self.now in
    let new = c.args.new in
    let caught = c.catch_up_all.new.self in
    let ready = c.reserve_moves.new.self in
    let further : water_of past.sources past.journal ≤ new = rw c.requires.new (water_rises past.sources past.journal c.args.entry.now) in
    let current : AreCurrent key_of fits next d past.sources past.journal ready =
    same_table key_of fits next d past.sources past.journal caught ready c.reserve_moves.ensures.table.index c.reserve_moves.ensures.table.dues c.reserve_moves.ensures.same (rw c.defs-defs.ensures.value c.catch_up_all.ensures.current) in
    let places : c.as_slice-places.result.now ≡ due_places ready new = still_places old caught ready c.as_slice-places.result.now new (c.as_slice-places.ensures.value ∙ c.in_ok-due.ensures) c.catch_up_all.ensures.table.index c.catch_up_all.ensures.table.dues c.reserve_moves.ensures.table.index c.reserve_moves.ensures.table.dues in
    let moved = c.move_all.ensures in
    let same : c.look_again.new.self.items ≡ c.move_all.new.self.dues.items = c.look_again.ensures in
    let limits : AreWithinLimits d = rw c.defs-defs.ensures.value c.defs-defs.ensures.limits in
    record {
      taken = rw (← c.defs-defs.ensures.value)
          (moved_table key_of fits next d past.sources past.journal ready _ c.args.entry.now new (rw c.defs-defs.ensures.value c.defs-defs.ensures.limits) c.requires.progress c.requires.new c.requires.water current
          moved.table.index moved.table.as_many (ap length same ∙ moved.table.as_many_dues) (rw (← places) moved.others) (rw (← places, same) moved.other_dues) (λ x. rw (← places, same) (moved.moved x)));
      changes = rw (← c.defs-defs.ensures.value)
          (appended key_of fits next d past.sources past.journal ready current new c.args.entry.now limits c.requires.progress c.requires.new c.args.told.now.log.items c.move_all.new.told.log.items
          (λ x each. rw (← c.reserve.ensures.items, ← places) (c.move_all.ensures.changes x (λ key. kept_of d.lateness past.sources key past.journal) (λ key. marks_of d.lateness past.sources key past.journal) (rw places each)))
          (λ none. c.move_all.ensures.nowhere (places ∙ none) ∙ c.reserve.ensures.items));
      refused = tt;
      nothing = tt;
      no_step = tt;
    }

-- those that are due were caught up, so each takes what the move of its key takes
pub returns-clause-work : goal.returns-clause-work
returns-clause-work g c =
    let key_of = g.K.KeyWindows.key_of in
    let fits = g.K.KeyWindows.fits in
    let next = g.K.KeyWindows.next_position in
    let past = c.args.past.now in
    let d = c.defs-defs.result.now in
    let old = c.args.self.now in
    let new = c.args.new in
    let caught = c.catch_up_all.new.self in
    let ready = c.reserve_moves.new.self in
    let current : AreCurrent key_of fits next d past.sources past.journal ready =
    same_table key_of fits next d past.sources past.journal caught ready c.reserve_moves.ensures.table.index c.reserve_moves.ensures.table.dues c.reserve_moves.ensures.same (rw c.defs-defs.ensures.value c.catch_up_all.ensures.current) in
    let places : c.as_slice-places.result.now ≡ due_places ready new = still_places old caught ready c.as_slice-places.result.now new (c.as_slice-places.ensures.value ∙ c.in_ok-due.ensures) c.catch_up_all.ensures.table.index c.catch_up_all.ensures.table.dues c.reserve_moves.ensures.table.index c.reserve_moves.ensures.table.dues in
    let limits : AreWithinLimits d = rw c.defs-defs.ensures.value c.defs-defs.ensures.limits in
    let water = water_of past.sources past.journal in
    let stand : StandAt water ready.slots.items (due_places ready new) (length (due_places ready new)) =
    subst (λ ps. StandAt water ready.slots.items ps (length ps)) places
    (still_stand key_of fits next d water caught.slots.items ready.slots.items c.as_slice-places.result.now (length c.as_slice-places.result.now) c.reserve_moves.ensures.same c.catch_up_all.ensures.water) in
    rw (← c.defs-defs.ensures.value)
    (moved_within key_of fits next d past.sources past.journal ready current new c.args.entry.now limits c.requires.progress c.requires.new g.K.KeyWindows.bounds_move c.requires.water stand c.args.steps.now c.move_all.new.steps
    (λ none. c.move_all.ensures.idle (places ∙ none))
    (λ x each. rw (← places) (c.move_all.ensures.bound x (λ key. kept_of d.lateness past.sources key past.journal) (λ key. marks_of d.lateness past.sources key past.journal) (rw places each))))
