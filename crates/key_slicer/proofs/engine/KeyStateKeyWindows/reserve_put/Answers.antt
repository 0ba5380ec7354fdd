-- The parts and the store go on to stand for what they did.
use Rattle.std.proofs.Common.{◌∙◌, ◌-◌, ap, arith, refl, rules, sym}
use Rattle.std.specs.Prelude.{vec_capacity, vec_len}
use Rattle.std.proofs.lemmas.Bool.{false≢true}
use Rattle.key_slicer.specs.declared.parts.Parts.{Parts}
use Rattle.key_slicer.specs.Parts.{rooms}
use Rattle.key_slicer.specs.States.{needs_no_part}
use Rattle.key_slicer.proofs.AheadFacts.{ahead_reserved, ahead_same}
use Rattle.key_slicer.proofs.StateFacts.{fits_reserved, fits_same, ready_to_put, ready_to_take}
use Rattle.key_slicer.proofs.engine.KeyStateKeyWindows.reserve_put.Goals as goal

pub returns-in_err-reserve : goal.returns-in_err-reserve
returns-in_err-reserve g c = record {
  key = search rules;
  next = search rules;
  stays = λ kept marks w fits.
      let s = c.args.self.now in
      fits_reserved g.P.KeyPart.stands c.args.defs.now (g.met.P.KeyPart.stands_with_room c.args.defs.now) kept marks w s.next s.store c.reserve.new.self s.parts.list.items s.parts.list.items (λ m n t a. a) c.reserve.ensures.kept fits;
  ready = search rules;
  promised = search rules;
  credit = search rules;
  ahead = λ w each.
      let s = c.args.self.now in
      let d = c.args.defs.now in
      ahead_reserved (g.P.KeyPart.is_ahead d) (g.met.P.KeyPart.ahead_with_room d) w s.store c.reserve.new.self s.parts.list.items s.parts.list.items (λ v t a. a) c.reserve.ensures.kept each;
}

-- no part need be told of the tuple
pub returns-then-needs_no_part : goal.returns-then-needs_no_part
returns-then-needs_no_part g c = record {
  key = search rules;
  next = search rules;
  stays = λ kept marks w fits.
      let s = c.args.self.now in
      fits_reserved g.P.KeyPart.stands c.args.defs.now (g.met.P.KeyPart.stands_with_room c.args.defs.now) kept marks w s.next s.store c.reserve.new.self s.parts.list.items s.parts.list.items (λ m n t a. a) c.reserve.ensures.kept fits;
  ready = record {
    water_is = c.requires.to_come.is_water;
    store = c.in_ok-reserve.ensures.room;
    reach = c.in_ok-reserve.ensures.reach;
    told = λ e. absurd (false≢true (sym e ∙ sym c.needs_no_part.ensures.answer ∙ c.if-needs_no_part.true));
  };
  promised = refl;
  credit = search rules;
  ahead = λ w each.
      let s = c.args.self.now in
      let d = c.args.defs.now in
      ahead_reserved (g.P.KeyPart.is_ahead d) (g.met.P.KeyPart.ahead_with_room d) w s.store c.reserve.new.self s.parts.list.items s.parts.list.items (λ v t a. a) c.reserve.ensures.kept each;
}

pub returns-in_err-room : goal.returns-in_err-room
returns-in_err-room g c = record {
  key = search rules;
  next = search rules;
  stays = λ kept marks w fits.
      let s = c.args.self.now in
      fits_reserved g.P.KeyPart.stands c.args.defs.now (g.met.P.KeyPart.stands_with_room c.args.defs.now) kept marks w s.next s.store c.reserve.new.self s.parts.list.items c.reserve_put.new.self.list.items c.reserve_put.ensures.stays c.reserve.ensures.kept fits;
  ready = search rules;
  promised = search rules;
  credit = search rules;
  ahead = λ w each.
      let s = c.args.self.now in
      let d = c.args.defs.now in
      ahead_reserved (g.P.KeyPart.is_ahead d) (g.met.P.KeyPart.ahead_with_room d) w s.store c.reserve.new.self s.parts.list.items c.reserve_put.new.self.list.items c.reserve_put.ensures.ahead c.reserve.ensures.kept each;
}

pub returns-in_err-make_room : goal.returns-in_err-make_room
returns-in_err-make_room g c = record {
  key = search rules;
  next = search rules;
  stays = λ kept marks w fits.
      let s = c.args.self.now in
      let t = c.make_room.new.self in
      fits_same g.P.KeyPart.stands c.args.defs.now kept marks w s.next t.next c.reserve.new.self t.store c.reserve_put.new.self.list.items t.parts.list.items c.make_room.ensures.next c.make_room.ensures.store (ap (λ (p : Parts g.row.M.Denot g.row.P.Denot). p.list.items) c.make_room.ensures.parts)
      (fits_reserved g.P.KeyPart.stands c.args.defs.now (g.met.P.KeyPart.stands_with_room c.args.defs.now) kept marks w s.next s.store c.reserve.new.self s.parts.list.items c.reserve_put.new.self.list.items c.reserve_put.ensures.stays c.reserve.ensures.kept fits);
  ready = search rules;
  promised = search rules;
  credit = omega (arith, ap (λ (p : Parts g.row.M.Denot g.row.P.Denot). rooms (λ i part. g.P.KeyPart.credit part) p.list.items) c.make_room.ensures.parts, c.reserve_put.ensures.credit);
  ahead = λ w each.
      let s = c.args.self.now in
      let d = c.args.defs.now in
      let t = c.make_room.new.self in
      ahead_same (g.P.KeyPart.is_ahead d) w c.reserve.new.self t.store c.reserve_put.new.self.list.items t.parts.list.items c.make_room.ensures.store (ap (λ (p : Parts g.row.M.Denot g.row.P.Denot). p.list.items) c.make_room.ensures.parts)
      (ahead_reserved (g.P.KeyPart.is_ahead d) (g.met.P.KeyPart.ahead_with_room d) w s.store c.reserve.new.self s.parts.list.items c.reserve_put.new.self.list.items c.reserve_put.ensures.ahead c.reserve.ensures.kept each);
}

pub returns : goal.returns
returns g c = record {
  key = search rules;
  next = search rules;
  stays = λ kept marks w fits.
      let s = c.args.self.now in
      let t = c.make_room.new.self in
      fits_same g.P.KeyPart.stands c.args.defs.now kept marks w s.next t.next c.reserve.new.self t.store c.reserve_put.new.self.list.items t.parts.list.items c.make_room.ensures.next c.make_room.ensures.store (ap (λ (p : Parts g.row.M.Denot g.row.P.Denot). p.list.items) c.make_room.ensures.parts)
      (fits_reserved g.P.KeyPart.stands c.args.defs.now (g.met.P.KeyPart.stands_with_room c.args.defs.now) kept marks w s.next s.store c.reserve.new.self s.parts.list.items c.reserve_put.new.self.list.items c.reserve_put.ensures.stays c.reserve.ensures.kept fits);
  ready =
      let d = c.args.defs.now in
      let t = c.make_room.new.self in
      ready_to_put g.T.AggTree.bounded _ _ (needs_no_part d c.args.time c.args.water)
      (ready_to_take g.T.AggTree.bounded (λ i part. g.P.KeyPart.is_ready d i c.args.time c.args.water part) (λ i part. g.P.KeyPart.put_room d i c.args.time c.args.water part) c.args.water c.reserve.new.self t.store c.reserve_put.new.self.list.items t.parts.list.items
      c.in_ok-room.room t.promise t.scratch.items (vec_capacity t.scratch - vec_len t.scratch) c.requires.to_come.is_water c.in_ok-room.ensures.ready c.in_ok-reserve.ensures.room c.in_ok-reserve.ensures.reach c.in_ok-room.ensures.room c.make_room.ensures.store (ap (λ (p : Parts g.row.M.Denot g.row.P.Denot). p.list.items) c.make_room.ensures.parts)
      c.in_ok-make_room.ensures.promised c.in_ok-make_room.ensures.empty c.in_ok-make_room.ensures.fits_in);
  promised = search rules;
  credit = omega (arith, ap (λ (p : Parts g.row.M.Denot g.row.P.Denot). rooms (λ i part. g.P.KeyPart.credit part) p.list.items) c.make_room.ensures.parts, c.reserve_put.ensures.credit);
  ahead = λ w each.
      let s = c.args.self.now in
      let d = c.args.defs.now in
      let t = c.make_room.new.self in
      ahead_same (g.P.KeyPart.is_ahead d) w c.reserve.new.self t.store c.reserve_put.new.self.list.items t.parts.list.items c.make_room.ensures.store (ap (λ (p : Parts g.row.M.Denot g.row.P.Denot). p.list.items) c.make_room.ensures.parts)
      (ahead_reserved (g.P.KeyPart.is_ahead d) (g.met.P.KeyPart.ahead_with_room d) w s.store c.reserve.new.self s.parts.list.items c.reserve_put.new.self.list.items c.reserve_put.ensures.ahead c.reserve.ensures.kept each);
}
