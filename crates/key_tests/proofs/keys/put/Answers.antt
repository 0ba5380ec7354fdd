-- It stands for lists before and after.
use Rattle.std.proofs.Common.{arith, inl, rules}
use Rattle.key_tests.proofs.keys.put.Goals as goal

pub reserve_put-requires : goal.reserve_put-requires
reserve_put-requires g c = record {
  stands = c.requires.stands;
  to_come = record { within = c.requires.time; is_water = inl (omega (arith, c.ranges.water.fits)) };
}

pub put-requires-clause-comes : goal.put-requires-clause-comes
put-requires-clause-comes g c =
    let old = c.requires.stands in
    record {
      stands = (old.0, old.1, c.reserve_put.ensures.stays old.0 old.1 c.args.water old.2);
      in_time = search rules;
      ready = search rules;
      spare = search rules;
    }

pub returns-clause-stands : goal.returns-clause-stands
returns-clause-stands g c =
    let old = c.requires.stands in
    let ready = c.reserve_put.ensures.stays old.0 old.1 c.args.water old.2 in
    (_, old.1, c.put.ensures.taken.fits old.0 old.1 ready)
