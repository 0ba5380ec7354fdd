-- One place more has room.
use Rattle.std.proofs.Common.{◌≡◌, ◌∙◌, ◌<◌, ap, arith, sym, get_or, length, take}
use Rattle.std.specs.Prelude.{sum_by}
use Rattle.std.proofs.lemmas.List.{take_all}
use Rattle.shard_core.proofs.Loops.{one_reserved, one_same, same_lists}
use Rattle.shard_core.proofs.keys.KeyTable.reserve_moves.Goals as goal

pub reserve_at-requires : goal.reserve_at-requires
reserve_at-requires g c =
    let i = c.loop-place.place-index in
    let places = c.args.places.now in
    let within : i < length places = omega arith in
    let place = get_or places i 0 in
    let same = c.loop-place.invariant.2 in
    record {
      within = omega (arith, c.requires.within i within, same.as_many);
      stands = λ x. same_lists g.K.KeyWindows.key_of g.K.KeyWindows.fits g.K.KeyWindows.next_position c.args.defs.now (get_or c.args.self.now.slots.items place x) (get_or c.loop-place.self.slots.items place x)
          (same.each_same place x) (c.requires.stand i within x);
      rises = λ x. omega (arith, (same.each_same place x).same_water, c.requires.rises i within x);
      is_water = c.requires.is_water;
    }

pub loop-place-preserved : goal.loop-place-preserved
loop-place-preserved g c =
    let key_of = g.K.KeyWindows.key_of in
    let fits = g.K.KeyWindows.fits in
    let next = g.K.KeyWindows.next_position in
    let d = c.args.defs.now in
    let i = c.loop-place.place-index in
    let places = c.args.places.now in
    let within : i < length places = omega arith in (
      c.reserve_at.ensures.table.index ∙ c.loop-place.invariant.0,
      c.reserve_at.ensures.table.dues ∙ c.loop-place.invariant.1,
      one_same key_of fits next d c.args.self.now.slots.items c.loop-place.self.slots.items c.reserve_at.new.self.slots.items (get_or places i 0) c.loop-place.invariant.2 c.reserve_at.ensures.len c.reserve_at.ensures.others c.reserve_at.ensures.same,
      one_reserved key_of fits next d (g.K.KeyWindows.is_ready c.args.defs.now) g.K.KeyWindows.promised c.args.new places i c.loop-place.self.slots.items c.reserve_at.new.self.slots.items c.loop-place.room c.in_ok-more.more c.in_ok-room.room within c.requires.apart
          c.loop-place.invariant.3 c.reserve_at.ensures.others c.in_ok-more.ensures.ready c.in_ok-more.ensures.promised c.in_ok-room.ensures,
    )

pub returns-clause-room : goal.returns-clause-room
returns-clause-room g c x =
    let places = c.args.places.now in
    let all : take c.loop-place.place-index places ≡ places = take_all c.loop-place.place-index places (omega arith) in
    ap (sum_by (λ p. g.K.KeyWindows.promised (get_or c.loop-place.self.slots.items p x).state)) (sym all) ∙ c.loop-place.invariant.3.room_is x
