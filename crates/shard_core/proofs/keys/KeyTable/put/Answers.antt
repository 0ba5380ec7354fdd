-- The state of the key takes in the tuple, or the table stays.
use Rattle.std.proofs.Common.{◌≡◌, ◌∙◌, ◌≤◌, ◌+◌, ◌++◌, ℤ, w64, ap, arith, get_or, get_or-set_same, length, of_z, refl, rules, subst, sym, to_z}
use Rattle.std.proofs.lemmas.Int.{to_z-of_z}
use Rattle.std.proofs.lemmas.List.{set-get_or}
use Rattle.stream_base.specs.Model.Journal.{kept_of, marks_of, put_in_order}
use Rattle.stream_base.specs.Model.Watermark.{water_of}
use Rattle.stream_base.specs.Model.What.{key_in}
use Rattle.stream_base.specs.Model.Changes.{changes_after}
use Rattle.stream_base.specs.Model.Moments.{IsWater, kept_at, moment}
use Rattle.key_windows.specs.Calls.{changes_by_put}
use Rattle.key_windows.specs.Dues.{IsDueNumber}
use Rattle.shard_core.specs.declared.slot.Slot.{Slot}
use Rattle.shard_core.specs.Shard.{Sharded}
use Rattle.shard_core.specs.Engines.{AreCurrent, HasLists, IsCurrent}
use Rattle.shard_core.proofs.Entries.{changes_of_tuple, kept_with_tuple, keyed_table, marks_with_tuple, moment_with_tuple, numbered_table, taken_within}
use Rattle.shard_core.proofs.Places.{alike, current_at, has_lists, on_err, replaced, same_for}
use Rattle.shard_core.proofs.keys.KeyTable.put.Goals as goal

pub put-requires-clause-position : goal.put-requires-clause-position
put-requires-clause-position g c =
    let was = current_at g.K.KeyWindows.key_of g.K.KeyWindows.fits g.K.KeyWindows.next_position c.args.past.now.defs c.args.past.now.sources c.args.past.now.journal c.prepare.new.self c.args.key.now c.in_ok-place.place c.index_mut.result.now c.prepare.ensures.current c.in_ok-place.ensures.place c.index_mut.ensures.value in
    subst (λ n. g.K.KeyWindows.next_position c.index_mut.result.now.state ≤ n) (sym c.len-position.ensures.value) was.position

pub put-requires-clause-accepted : goal.put-requires-clause-accepted
put-requires-clause-accepted g c =
    let past = c.args.past.now in
    let slot = c.index_mut.result.now in
    let was = current_at g.K.KeyWindows.key_of g.K.KeyWindows.fits g.K.KeyWindows.next_position past.defs past.sources past.journal c.prepare.new.self c.args.key.now c.in_ok-place.place slot c.prepare.ensures.current c.in_ok-place.ensures.place c.index_mut.ensures.value in
    let water : slot.water ≡ water_of past.sources past.journal = ap (λ s. s.water) c.index_mut.ensures.value ∙ c.in_ok-place.ensures.water slot in
    rw c.defs-defs.ensures.value (record {
      stands = has_lists g.K.KeyWindows.key_of g.K.KeyWindows.fits g.K.KeyWindows.next_position past.defs past.sources past.journal c.prepare.new.self c.args.key.now c.in_ok-place.place slot c.prepare.ensures.current c.in_ok-place.ensures.place c.index_mut.ensures.value;
      within = c.requires.accepted.within;
      is_water = was.is_water;
      accepted = omega (arith, water, c.requires.accepted.accepted);
    })

pub due-requires-clause-stands : goal.due-requires-clause-stands
due-requires-clause-stands g c =
    let fits = g.K.KeyWindows.fits in
    let past = c.args.past.now in
    let d = c.defs-defs.result.now in
    let table = c.prepare.new.self in
    let new = c.put.new.self in
    let there : c.index.result.now ≡ new = c.index.ensures ∙ get_or-set_same table.slots.items c.in_ok-place.place new c.index.result.now (c.prepare.ensures.current.placed c.args.key.now c.in_ok-place.place c.in_ok-place.ensures.place) in
    let old : HasLists fits d c.index_mut.result.now = rw c.defs-defs.ensures.value
    (has_lists g.K.KeyWindows.key_of fits g.K.KeyWindows.next_position past.defs past.sources past.journal c.prepare.new.self c.args.key.now c.in_ok-place.place c.index_mut.result.now c.prepare.ensures.current c.in_ok-place.ensures.place c.index_mut.ensures.value) in
    subst (λ (s : Slot g.row.K.Denot). HasLists fits d s) (sym there) (_, old.1, c.in_ok-stays.ensures.fits old.0 old.1 old.2)

pub due-requires-clause-water : goal.due-requires-clause-water
due-requires-clause-water g c =
    let past = c.args.past.now in
    let table = c.prepare.new.self in
    let new = c.put.new.self in
    let there : c.index.result.now ≡ new = c.index.ensures ∙ get_or-set_same table.slots.items c.in_ok-place.place new c.index.result.now (c.prepare.ensures.current.placed c.args.key.now c.in_ok-place.place c.in_ok-place.ensures.place) in
    let was = current_at g.K.KeyWindows.key_of g.K.KeyWindows.fits g.K.KeyWindows.next_position past.defs past.sources past.journal c.prepare.new.self c.args.key.now c.in_ok-place.place c.index_mut.result.now c.prepare.ensures.current c.in_ok-place.ensures.place c.index_mut.ensures.value in
    subst (λ (s : Slot g.row.K.Denot). IsWater s.water) (sym there) (subst IsWater (sym c.in_ok-stays.ensures.water) was.is_water)

pub returns-in_err-stays-clause-taken : goal.returns-in_err-stays-clause-taken
returns-in_err-stays-clause-taken g c e is =
    let key_of = g.K.KeyWindows.key_of in
    let fits = g.K.KeyWindows.fits in
    let next = g.K.KeyWindows.next_position in
    let past = c.args.past.now in
    let table = c.prepare.new.self in
    let place = c.in_ok-place.place in
    let due = get_or table.dues.items place 0 in
    let was = current_at key_of fits next past.defs past.sources past.journal table c.args.key.now place c.index_mut.result.now c.prepare.ensures.current c.in_ok-place.ensures.place c.index_mut.ensures.value in
    record {
      taken = search rules;
      changes = search rules;
      refused = on_err c.from_residual-in_err-stays.result
          (replaced key_of fits next past.defs past.sources past.journal past.journal table _ c.args.key.now place c.put.new.self due c.prepare.ensures.current c.in_ok-place.ensures.place refl refl
          (sym (set-get_or table.dues.items place 0)) (λ q ne. same_for past.defs past.sources past.journal q) (omega arith) refl
          (alike key_of fits next past.defs past.sources past.journal c.args.key.now c.index_mut.result.now c.put.new.self due (rw (← c.defs-defs.ensures.value) c.in_err-stays.ensures.refused.same) was));
      nothing = search rules;
      no_step = search rules;
    }

pub returns-then-stays-clause-taken : goal.returns-then-stays-clause-taken
returns-then-stays-clause-taken g c e is =
    let key_of = g.K.KeyWindows.key_of in
    let fits = g.K.KeyWindows.fits in
    let next = g.K.KeyWindows.next_position in
    let past = c.args.past.now in
    let d = c.defs-defs.result.now in
    let table = c.prepare.new.self in
    let key = c.args.key.now in
    let place = c.in_ok-place.place in
    let slot = c.index_mut.result.now in
    let accepted : water_of past.sources past.journal ≤ c.args.time + d.lateness = rw c.defs-defs.ensures.value c.requires.accepted.accepted in
    let current : AreCurrent key_of fits next d past.sources past.journal table = rw c.defs-defs.ensures.value c.prepare.ensures.current in
    let water : slot.water ≡ water_of past.sources past.journal = ap (λ s. s.water) c.index_mut.ensures.value ∙ c.in_ok-place.ensures.water slot in
    let same = to_z-of_z w64 c.args.value c.ranges.value in
    let at : c.len-position.result ≡ length past.journal = c.len-position.ensures.value in
    let new = c.put.new.self in
    let kept = kept_of d.lateness past.sources key past.journal in
    let marks = marks_of d.lateness past.sources key past.journal in
    let was : IsCurrent key_of fits next d past.sources past.journal key slot (get_or table.dues.items place 0) = current_at key_of fits next d past.sources past.journal table key place slot current c.in_ok-place.ensures.place c.index_mut.ensures.value in
    record {
      taken = rw (← c.defs-defs.ensures.value)
          (numbered_table key_of fits next d past.sources past.journal e key (ap key_in is) table _ place slot new (get_or table.dues.items place 0) current c.in_ok-place.ensures.place c.index_mut.ensures.value water refl refl (sym (set-get_or table.dues.items place 0))
          c.in_ok-stays.ensures.key c.in_ok-stays.ensures.water (omega (arith, c.in_ok-stays.ensures.next, at))
          (λ f. rw (kept_with_tuple d past.sources past.journal e key c.args.time c.args.value is accepted, marks_with_tuple d past.sources past.journal e key c.args.time c.args.value is accepted)
          (subst (λ n. fits d (put_in_order kept (kept_at n c.args.time c.args.value)) marks new.water new.state) at
          (subst (λ (v : ℤ). fits d (put_in_order kept (kept_at c.len-position.result c.args.time v)) marks new.water new.state) same (c.in_ok-stays.ensures.fits kept marks f))))
          (λ now. rw (kept_with_tuple d past.sources past.journal e key c.args.time c.args.value is accepted, marks_with_tuple d past.sources past.journal e key c.args.time c.args.value is accepted)
          (subst (λ n. IsDueNumber fits d key (put_in_order kept (kept_at n c.args.time c.args.value)) marks new.water new.state (get_or table.dues.items place 0)) at
          (subst (λ (v : ℤ). IsDueNumber fits d key (put_in_order kept (kept_at c.len-position.result c.args.time v)) marks new.water new.state (get_or table.dues.items place 0)) same
          (subst (λ w. IsDueNumber fits d key (put_in_order kept (kept_at c.len-position.result c.args.time (to_z w64 (of_z w64 c.args.value)))) marks w new.state (get_or table.dues.items place 0)) (sym c.in_ok-stays.ensures.water)
          (subst (λ l. IsDueNumber fits d l (put_in_order kept (kept_at c.len-position.result c.args.time (to_z w64 (of_z w64 c.args.value)))) marks slot.water new.state (get_or table.dues.items place 0)) was.of_key
          (c.in_ok-stays.ensures.due kept marks (get_or table.dues.items place 0) was.stands
          (subst (λ l. IsDueNumber fits d l kept marks slot.water slot.state (get_or table.dues.items place 0)) (sym was.of_key) was.number) c.if-stays.true)))))));
      changes = c.in_ok-stays.ensures.changes kept marks was.stands
          ∙ (λ i. (c.prepare.ensures.told i).log.items ++ changes_by_put d (was.of_key i) kept marks (water i) (kept_at (at i) c.args.time (same i)))
          ∙ ap (λ l. c.args.told.now.log.items ++ l) (sym (changes_of_tuple d past.sources past.journal e key c.args.time c.args.value is accepted (rw c.defs-defs.ensures.value c.defs-defs.ensures.limits)))
          ∙ ap (λ x. c.args.told.now.log.items ++ changes_after x past.sources past.journal e) c.defs-defs.ensures.value;
      refused = tt;
      nothing = tt;
      no_step = tt;
    }

pub returns-clause-taken : goal.returns-clause-taken
returns-clause-taken g c e is =
    let key_of = g.K.KeyWindows.key_of in
    let fits = g.K.KeyWindows.fits in
    let next = g.K.KeyWindows.next_position in
    let past = c.args.past.now in
    let d = c.defs-defs.result.now in
    let table = c.prepare.new.self in
    let key = c.args.key.now in
    let place = c.in_ok-place.place in
    let slot = c.index_mut.result.now in
    let accepted : water_of past.sources past.journal ≤ c.args.time + d.lateness = rw c.defs-defs.ensures.value c.requires.accepted.accepted in
    let current : AreCurrent key_of fits next d past.sources past.journal table = rw c.defs-defs.ensures.value c.prepare.ensures.current in
    let water : slot.water ≡ water_of past.sources past.journal = ap (λ s. s.water) c.index_mut.ensures.value ∙ c.in_ok-place.ensures.water slot in
    let same = to_z-of_z w64 c.args.value c.ranges.value in
    let at : c.len-position.result ≡ length past.journal = c.len-position.ensures.value in
    let new = c.put.new.self in
    let there : c.index.result.now ≡ new = c.index.ensures ∙ get_or-set_same table.slots.items place new c.index.result.now (current.placed key place c.in_ok-place.ensures.place) in
    let kept = kept_of d.lateness past.sources key past.journal in
    let marks = marks_of d.lateness past.sources key past.journal in
    let was : IsCurrent key_of fits next d past.sources past.journal key slot (get_or table.dues.items place 0) = current_at key_of fits next d past.sources past.journal table key place slot current c.in_ok-place.ensures.place c.index_mut.ensures.value in
    record {
      taken = rw (← c.defs-defs.ensures.value)
          (keyed_table key_of fits next d past.sources past.journal e key (ap key_in is) table _ place slot new c.due.result current c.in_ok-place.ensures.place c.index_mut.ensures.value water refl refl c.set.ensures
          c.in_ok-stays.ensures.key c.in_ok-stays.ensures.water (omega (arith, c.in_ok-stays.ensures.next, at))
          (λ f. rw (kept_with_tuple d past.sources past.journal e key c.args.time c.args.value is accepted, marks_with_tuple d past.sources past.journal e key c.args.time c.args.value is accepted)
          (subst (λ n. fits d (put_in_order kept (kept_at n c.args.time c.args.value)) marks new.water new.state) at
          (subst (λ (v : ℤ). fits d (put_in_order kept (kept_at c.len-position.result c.args.time v)) marks new.water new.state) same (c.in_ok-stays.ensures.fits kept marks f))))
          (λ kept marks f. subst (λ (s : Slot g.row.K.Denot). IsDueNumber fits d (key_of s.state) kept marks s.water s.state c.due.result) there (c.due.ensures kept marks (subst (λ (s : Slot g.row.K.Denot). fits d kept marks s.water s.state) (sym there) f))));
      changes = c.in_ok-stays.ensures.changes kept marks was.stands
          ∙ (λ i. (c.prepare.ensures.told i).log.items ++ changes_by_put d (was.of_key i) kept marks (water i) (kept_at (at i) c.args.time (same i)))
          ∙ ap (λ l. c.args.told.now.log.items ++ l) (sym (changes_of_tuple d past.sources past.journal e key c.args.time c.args.value is accepted (rw c.defs-defs.ensures.value c.defs-defs.ensures.limits)))
          ∙ ap (λ x. c.args.told.now.log.items ++ changes_after x past.sources past.journal e) c.defs-defs.ensures.value;
      refused = tt;
      nothing = tt;
      no_step = tt;
    }

pub returns-then-stays-clause-work : goal.returns-then-stays-clause-work
returns-then-stays-clause-work g c e is =
    let key_of = g.K.KeyWindows.key_of in
    let fits = g.K.KeyWindows.fits in
    let next = g.K.KeyWindows.next_position in
    let past = c.args.past.now in
    let d = c.defs-defs.result.now in
    let table = c.prepare.new.self in
    let key = c.args.key.now in
    let place = c.in_ok-place.place in
    let slot = c.index_mut.result.now in
    let accepted : water_of past.sources past.journal ≤ c.args.time + d.lateness = rw c.defs-defs.ensures.value c.requires.accepted.accepted in
    let current : AreCurrent key_of fits next d past.sources past.journal table = rw c.defs-defs.ensures.value c.prepare.ensures.current in
    let water : slot.water ≡ water_of past.sources past.journal = ap (λ s. s.water) c.index_mut.ensures.value ∙ c.in_ok-place.ensures.water slot in
    let same = to_z-of_z w64 c.args.value c.ranges.value in
    let at : c.len-position.result ≡ length past.journal = c.len-position.ensures.value in
    let was : IsCurrent key_of fits next d past.sources past.journal key slot (get_or table.dues.items place 0) = current_at key_of fits next d past.sources past.journal table key place slot current c.in_ok-place.ensures.place c.index_mut.ensures.value in
    let kept = kept_of d.lateness past.sources key past.journal in
    let marks = marks_of d.lateness past.sources key past.journal in
    let shard : Sharded = record { defs = d; sources = past.sources; journal = past.journal } in
    rw (← c.defs-defs.ensures.value)
    (taken_within g.K.KeyWindows.bounds_put shard e key c.args.time c.args.steps.now c.put.new.steps (key_of slot.state) _ _ was.of_key
    (λ i. moment kept marks (water i))
    (moment_with_tuple d past.sources past.journal e key c.args.time c.args.value is accepted ∙ sym (λ i. moment (put_in_order kept (kept_at (at i) c.args.time (same i))) marks (water i)))
    (c.in_ok-stays.ensures.bound kept marks was.stands))

pub returns-clause-work : goal.returns-clause-work
returns-clause-work g c e is =
    let key_of = g.K.KeyWindows.key_of in
    let fits = g.K.KeyWindows.fits in
    let next = g.K.KeyWindows.next_position in
    let past = c.args.past.now in
    let d = c.defs-defs.result.now in
    let table = c.prepare.new.self in
    let key = c.args.key.now in
    let place = c.in_ok-place.place in
    let slot = c.index_mut.result.now in
    let accepted : water_of past.sources past.journal ≤ c.args.time + d.lateness = rw c.defs-defs.ensures.value c.requires.accepted.accepted in
    let current : AreCurrent key_of fits next d past.sources past.journal table = rw c.defs-defs.ensures.value c.prepare.ensures.current in
    let water : slot.water ≡ water_of past.sources past.journal = ap (λ s. s.water) c.index_mut.ensures.value ∙ c.in_ok-place.ensures.water slot in
    let same = to_z-of_z w64 c.args.value c.ranges.value in
    let at : c.len-position.result ≡ length past.journal = c.len-position.ensures.value in
    let was : IsCurrent key_of fits next d past.sources past.journal key slot (get_or table.dues.items place 0) = current_at key_of fits next d past.sources past.journal table key place slot current c.in_ok-place.ensures.place c.index_mut.ensures.value in
    let kept = kept_of d.lateness past.sources key past.journal in
    let marks = marks_of d.lateness past.sources key past.journal in
    let shard : Sharded = record { defs = d; sources = past.sources; journal = past.journal } in
    rw (← c.defs-defs.ensures.value)
    (taken_within g.K.KeyWindows.bounds_put shard e key c.args.time c.args.steps.now c.put.new.steps (key_of slot.state) _ _ was.of_key
    (λ i. moment kept marks (water i))
    (moment_with_tuple d past.sources past.journal e key c.args.time c.args.value is accepted ∙ sym (λ i. moment (put_in_order kept (kept_at (at i) c.args.time (same i))) marks (water i)))
    (c.in_ok-stays.ensures.bound kept marks was.stands))
