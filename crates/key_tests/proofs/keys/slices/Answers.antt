-- It counts under a later watermark too.
use Rattle.std.proofs.Common.{arith, inl}
use Rattle.key_tests.proofs.keys.slices.Goals as goal

pub slice_count-requires : goal.slice_count-requires
slice_count-requires g c = (
  c.args.old,
  record {
    stands = c.requires.stands;
    to_come = record { rises = c.requires.rises; is_water = inl (omega (arith, c.ranges.water.fits)) };
  },
)
