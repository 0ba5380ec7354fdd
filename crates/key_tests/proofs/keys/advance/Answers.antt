-- It stands for lists before and after.
use Rattle.std.proofs.Common.{arith, inl, rules}
use Rattle.key_tests.proofs.keys.advance.Goals as goal

pub reserve_water-requires : goal.reserve_water-requires
reserve_water-requires g c = record {
  stands = c.requires.stands;
  to_come = record { rises = c.requires.rises; is_water = inl (omega (arith, c.ranges.new.fits)) };
}

pub water-requires : goal.water-requires
water-requires g c =
    let old = c.requires.stands in
    record {
      stands = (old.0, old.1, c.reserve_water.ensures.stays old.0 old.1 c.args.old old.2);
      in_time = record { rises = c.requires.rises; is_water = inl (omega (arith, c.ranges.new.fits)) };
      ready = search rules;
      spare = search rules;
    }

pub returns-clause-stands : goal.returns-clause-stands
returns-clause-stands g c =
    let old = c.requires.stands in
    let ready = c.reserve_water.ensures.stays old.0 old.1 c.args.old old.2 in
    (old.0, old.1, c.water.ensures.taken.fits old.0 old.1 ready)
