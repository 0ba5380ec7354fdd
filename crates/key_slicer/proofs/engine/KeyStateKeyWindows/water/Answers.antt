-- The parts took the move in, and else there is nothing that it could complete.
use Rattle.std.proofs.Common.{◌≡◌, ◌∙◌, ◌++◌, [], ap, append-nil, arith, refl, rules, sym, true, ⊎_elim}
use Rattle.stream_base.specs.Model.Moments.{moment}
use Rattle.key_slicer.specs.States.{IsBlank, StandsFor}
use Rattle.key_slicer.specs.Work.{move_over}
use Rattle.key_slicer.proofs.StateFacts.{all_stand, fits_blank, move_is, nothing_moves, stands_moved}
use Rattle.key_slicer.proofs.WorkFacts.{move_is_bounded}
use Rattle.key_slicer.proofs.engine.KeyStateKeyWindows.water.Goals as goal

pub purge-requires : goal.purge-requires
purge-requires g c =
    let r = c.requires.stands in
    let s = c.args.self.now in
    let d = c.args.defs.now in
    let m = moment r.0 r.1 c.args.old in
    let moved : StandsFor g.P.KeyPart.stands d (moment r.0 r.1 c.args.new) s.next s.store c.water.new.self.list.items =
    stands_moved g.P.KeyPart.stands d r.0 r.1 c.args.old c.args.new s.next s.store s.parts.list.items c.water.new.self.list.items c.requires.in_time.rises r.2.known
    (c.water.ensures.stands m r.2.known.without (all_stand g.P.KeyPart.stands d m c.args.old s.next s.store s.parts.list.items refl r.2.known)) in
    record { is_water = c.requires.in_time.is_water; key = (r.0, r.1, moved) }

pub returns-then-is_water-clause-taken : goal.returns-then-is_water-clause-taken
returns-then-is_water-clause-taken g c = record {
  key = search rules;
  next = search rules;
  changes = λ kept marks fits.
      let s = c.args.self.now in
      let d = c.args.defs.now in
      let m = moment kept marks c.args.old in
      c.water.ensures.changes m fits.known.without (all_stand g.P.KeyPart.stands d m c.args.old s.next s.store s.parts.list.items refl fits.known)
      ∙ ap (λ cs. c.args.out.now.items ++ cs) (sym (move_is d s.key kept marks c.args.old c.args.new s.next fits.known.held.may_leave.kinds fits.known.lists c.requires.in_time.rises));
  capacity = c.water.ensures.adds.capacity;
  fits = λ kept marks fits.
      let s = c.args.self.now in
      let d = c.args.defs.now in
      let m = moment kept marks c.args.old in
      let moved : StandsFor g.P.KeyPart.stands d (moment kept marks c.args.new) s.next s.store c.water.new.self.list.items =
      stands_moved g.P.KeyPart.stands d kept marks c.args.old c.args.new s.next s.store s.parts.list.items c.water.new.self.list.items c.requires.in_time.rises fits.known
      (c.water.ensures.stands m fits.known.without (all_stand g.P.KeyPart.stands d m c.args.old s.next s.store s.parts.list.items refl fits.known)) in
      c.purge.ensures.fits kept marks moved;
}

pub returns-else-is_water-clause-taken : goal.returns-else-is_water-clause-taken
returns-else-is_water-clause-taken g c = record {
  key = search rules;
  next = search rules;
  changes = λ kept marks fits.
      let s = c.args.self.now in
      let d = c.args.defs.now in
      let none : kept ≡ [] = ⊎_elim (λ is. let yes : c.is_water.result ≡ true = c.is_water.ensures.no is in cc (c.if-is_water.false)) (λ (b : IsBlank g.P.KeyPart.stands d kept marks s.next s.store s.parts.list.items). b.no_tuple) fits.clock in
      sym (append-nil c.args.out.now.items)
      ∙ ap (λ cs. c.args.out.now.items ++ cs) (sym (nothing_moves d s.key kept marks c.args.old c.args.new s.next fits.known.held.may_leave.kinds fits.known.lists c.requires.in_time.rises none));
  capacity = refl;
  fits = λ kept marks fits.
      let s = c.args.self.now in
      let d = c.args.defs.now in
      ⊎_elim (λ is. let yes : c.is_water.result ≡ true = c.is_water.ensures.no is in cc (c.if-is_water.false))
      (λ (b : IsBlank g.P.KeyPart.stands d kept marks s.next s.store s.parts.list.items). fits_blank g.P.KeyPart.stands d kept marks c.args.new s.next s.store s.parts.list.items b) fits.clock;
}

pub returns-then-is_water-clause-ahead : goal.returns-then-is_water-clause-ahead
returns-then-is_water-clause-ahead g c = λ is.
    let r = c.requires.stands in
    let s = c.args.self.now in
    let d = c.args.defs.now in
    let m = moment r.0 r.1 c.args.old in
    let f = r.2.known in
    c.purge.ensures.ahead (c.water.ensures.ahead m f.without (all_stand g.P.KeyPart.stands d m c.args.old s.next s.store s.parts.list.items refl f))

pub returns-else-is_water-clause-ahead : goal.returns-else-is_water-clause-ahead
returns-else-is_water-clause-ahead g c = λ is. let yes : c.is_water.result ≡ true = c.is_water.ensures.no is in cc (c.if-is_water.false)

pub returns-then-is_water-clause-work_ahead : goal.returns-then-is_water-clause-work_ahead
returns-then-is_water-clause-work_ahead g c = λ kept marks fits each.
    let s = c.args.self.now in
    let d = c.args.defs.now in
    let m = moment kept marks c.args.old in
    let f = fits.known in
    omega (arith, c.water.ensures.work_ahead m f.without (all_stand g.P.KeyPart.stands d m c.args.old s.next s.store s.parts.list.items refl f) each, c.purge.ensures.work, c.purge.ensures.credit)

pub returns-then-is_water-clause-work : goal.returns-then-is_water-clause-work
returns-then-is_water-clause-work g c = λ kept marks fits.
    let s = c.args.self.now in
    let d = c.args.defs.now in
    let m = moment kept marks c.args.old in
    let f = fits.known in
    omega (arith, c.water.ensures.work m f.without (all_stand g.P.KeyPart.stands d m c.args.old s.next s.store s.parts.list.items refl f), c.purge.ensures.work, c.purge.ensures.credit)

-- the moves of the parts, and the slices that leave
pub returns-then-is_water-clause-bound : goal.returns-then-is_water-clause-bound
returns-then-is_water-clause-bound g c = λ kept marks fits.
    let s = c.args.self.now in
    let d = c.args.defs.now in
    let m = moment kept marks c.args.old in
    let new = moment kept marks c.args.new in
    let f = fits.known in
    let then_ = (returns-then-is_water-clause-taken g c).fits kept marks fits in (
      move_over d s.key m new s.store.slices c.purge.new.self.store.slices s.store.reach,
      move_is_bounded g.T.AggTree.bounded d s.key m f.without s.store f.held f.store fits.none_settled c.vouch_reach.ensures new then_.known.without c.purge.new.self.store then_.known.held then_.known.store then_.none_settled,
      omega (arith, c.water.ensures.bound m f.without (all_stand g.P.KeyPart.stands d m c.args.old s.next s.store s.parts.list.items refl f), c.purge.ensures.work),
    )

-- a key that has nothing yet takes no step
pub returns-else-is_water-clause-bound : goal.returns-else-is_water-clause-bound
returns-else-is_water-clause-bound g c = λ kept marks fits.
    let s = c.args.self.now in
    let d = c.args.defs.now in
    let m = moment kept marks c.args.old in
    let new = moment kept marks c.args.new in
    let f = fits.known in
    let then_ = (returns-else-is_water-clause-taken g c).fits kept marks fits in (
      move_over d s.key m new s.store.slices s.store.slices s.store.reach,
      move_is_bounded g.T.AggTree.bounded d s.key m f.without s.store f.held f.store fits.none_settled c.vouch_reach.ensures new then_.known.without s.store then_.known.held then_.known.store then_.none_settled,
      omega arith,
    )
