-- The parts go on to stand for what they did.
use Rattle.std.proofs.Common.{rules}
use Rattle.key_slicer.proofs.StateFacts.{fits_reserved, no_more_room}
use Rattle.key_slicer.proofs.engine.KeyStateKeyWindows.reserve_water.Goals as goal

pub returns-in_err-room : goal.returns-in_err-room
returns-in_err-room g c = record {
  key = search rules;
  next = search rules;
  stays = λ kept marks w fits.
      let s = c.args.self.now in
      fits_reserved g.P.KeyPart.stands c.args.defs.now (g.met.P.KeyPart.stands_with_room c.args.defs.now) kept marks w s.next s.store s.store s.parts.list.items c.reserve_water.new.self.list.items c.reserve_water.ensures.stays (no_more_room s.store) fits;
  ready = search rules;
  promised = search rules;
  credit = search rules;
  ahead = search rules;
}

pub returns : goal.returns
returns g c = record {
  key = search rules;
  next = search rules;
  stays = λ kept marks w fits.
      let s = c.args.self.now in
      fits_reserved g.P.KeyPart.stands c.args.defs.now (g.met.P.KeyPart.stands_with_room c.args.defs.now) kept marks w s.next s.store s.store s.parts.list.items c.reserve_water.new.self.list.items c.reserve_water.ensures.stays (no_more_room s.store) fits;
  ready = search rules;
  promised = search rules;
  credit = search rules;
  ahead = search rules;
}
