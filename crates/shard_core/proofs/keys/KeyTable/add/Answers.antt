-- A fresh slot comes behind the others, or nothing changes.
use Rattle.std.proofs.Common.{◌≡◌, ◌∙◌, ◌++◌, ◌∷◌, [], List, ℕ, Some, cond, length, ap, refl, subst, sym}
use Rattle.std.specs.BTreeMap.{is_at}
use Rattle.std.specs.Cmp.Lexicographic.{slice_cmp}
use Rattle.std.specs.Ordering.{nat_cmp}
use Rattle.stream_base.specs.Model.Moments.{IsWater}
use Rattle.key_windows.specs.Dues.{IsDueNumber}
use Rattle.shard_core.specs.Engines.{place_of_key}
use Rattle.shard_core.proofs.Places.{added, unchanged}
use Rattle.shard_core.proofs.Placing.{at_itself}
use Rattle.shard_core.proofs.keys.KeyTable.add.Goals as goal

pub returns-in_err-reserve-clause-current : goal.returns-in_err-reserve-clause-current
returns-in_err-reserve-clause-current g c h =
    let past = c.args.past.now in
    unchanged g.K.KeyWindows.key_of g.K.KeyWindows.fits g.K.KeyWindows.next_position past.defs past.sources past.journal c.args.self.now _ refl c.reserve.ensures.items refl h

pub returns-in_err-reserve-2-clause-current : goal.returns-in_err-reserve-2-clause-current
returns-in_err-reserve-2-clause-current g c h =
    let past = c.args.past.now in
    unchanged g.K.KeyWindows.key_of g.K.KeyWindows.fits g.K.KeyWindows.next_position past.defs past.sources past.journal c.args.self.now _ refl c.reserve.ensures.items c.reserve-2.ensures.items h

pub returns-in_err-reserve_key-clause-current : goal.returns-in_err-reserve_key-clause-current
returns-in_err-reserve_key-clause-current g c h =
    let past = c.args.past.now in
    unchanged g.K.KeyWindows.key_of g.K.KeyWindows.fits g.K.KeyWindows.next_position past.defs past.sources past.journal c.args.self.now _ refl c.reserve.ensures.items c.reserve-2.ensures.items h

pub returns-in_err-slot-clause-current : goal.returns-in_err-slot-clause-current
returns-in_err-slot-clause-current g c h =
    let past = c.args.past.now in
    unchanged g.K.KeyWindows.key_of g.K.KeyWindows.fits g.K.KeyWindows.next_position past.defs past.sources past.journal c.args.self.now _ refl c.reserve.ensures.items c.reserve-2.ensures.items h

pub returns-in_err-place-clause-current : goal.returns-in_err-place-clause-current
returns-in_err-place-clause-current g c h =
    let past = c.args.past.now in
    unchanged g.K.KeyWindows.key_of g.K.KeyWindows.fits g.K.KeyWindows.next_position past.defs past.sources past.journal c.args.self.now _ c.in_err-place.ensures.refused c.reserve.ensures.items c.reserve-2.ensures.items h

pub returns-clause-place : goal.returns-clause-place
returns-clause-place g c =
    c.in_ok-place.ensures.added c.args.key.now
    ∙ ap (λ b. cond b (Some c.in_ok-place.place) (place_of_key c.args.self.now c.args.key.now)) (at_itself c.args.key.now)

pub returns-clause-current : goal.returns-clause-current
returns-clause-current g c h =
    let past = c.args.past.now in
    let d = c.defs-defs.result.now in
    let slot = c.in_ok-slot.slot in
    let stands : g.K.KeyWindows.fits d [] [] slot.water slot.state = subst (λ (n : ℕ). g.K.KeyWindows.fits d [] [] n slot.state) (sym c.in_ok-slot.ensures.water) c.in_ok-slot.ensures.empty in
    let at : c.in_ok-place.place ≡ length c.args.self.now.slots.items = c.in_ok-place.ensures.place ∙ sym h.counted in
    rw (← c.defs-defs.ensures.value)
    (added g.K.KeyWindows.key_of g.K.KeyWindows.fits g.K.KeyWindows.next_position d past.sources past.journal c.args.self.now _ c.args.key.now slot c.due-due.result (rw c.defs-defs.ensures.value h) c.requires
    (λ q. c.in_ok-place.ensures.added q ∙ ap (λ n. cond (is_at (slice_cmp nat_cmp c.args.key.now) q) (Some n) (place_of_key c.args.self.now q)) at)
    c.add.ensures.by_key c.in_ok-place.ensures.len
    (c.push_reserved.ensures.items ∙ ap (λ l. l ++ slot ∷ []) c.reserve.ensures.items)
    (c.push_reserved-2.ensures.items ∙ ap (λ l. l ++ c.due-due.result ∷ []) c.reserve-2.ensures.items)
    c.in_ok-slot.ensures.key c.in_ok-slot.ensures.first stands (c.in_ok-slot.ensures.water ∙ c.water.ensures.value) (subst IsWater (sym c.in_ok-slot.ensures.water) c.water.ensures.is_water)
    (subst (λ (k : List ℕ). IsDueNumber g.K.KeyWindows.fits d k [] [] slot.water slot.state c.due-due.result) c.in_ok-slot.ensures.key (c.due-due.ensures [] [] stands)))

pub due-due-requires-clause-stands : goal.due-due-requires-clause-stands
due-due-requires-clause-stands g c = ([], [], subst (λ (n : ℕ). g.K.KeyWindows.fits c.defs-defs.result.now [] [] n c.in_ok-slot.slot.state) (sym c.in_ok-slot.ensures.water) c.in_ok-slot.ensures.empty)
