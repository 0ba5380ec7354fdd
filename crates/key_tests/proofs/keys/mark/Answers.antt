-- It stands for lists before and after.
use Rattle.std.proofs.Common.{arith, inl, rules}
use Rattle.key_tests.proofs.keys.mark.Goals as goal

pub reserve_mark-requires : goal.reserve_mark-requires
reserve_mark-requires g c = record {
  stands = c.requires.stands;
  to_come = record { within = omega (arith, c.ranges.time.fits); is_water = inl (omega (arith, c.ranges.water.fits)) };
}

pub mark-requires : goal.mark-requires
mark-requires g c =
    let old = c.requires.stands in
    record {
      stands = (old.0, old.1, c.reserve_mark.ensures.stays old.0 old.1 c.args.water old.2);
      in_time = record { within = omega (arith, c.ranges.time.fits); accepted = c.requires.accepted };
      ready = search rules;
      spare = search rules;
    }

pub returns-clause-stands : goal.returns-clause-stands
returns-clause-stands g c =
    let old = c.requires.stands in
    let ready = c.reserve_mark.ensures.stays old.0 old.1 c.args.water old.2 in
    (old.0, _, c.mark.ensures.taken.fits old.0 old.1 ready)
