-- What settled has left, and each part goes on to stand for the key without what nothing needs.
use Rattle.std.proofs.Common.{arith, inl, refl}
use Rattle.stream_base.specs.Model.Moments.{moment}
use Rattle.key_slicer.proofs.key_state.KeyState.purge.Goals as goal

pub drop_needless-requires : goal.drop_needless-requires
drop_needless-requires g c =
    let r = c.requires.key in
    let known = (c.drop_settled.ensures.fits r.0 r.1 r.2).known in
    (moment r.0 r.1 c.args.water, known.without, c.drop_settled.new.self.store, known.stood)

pub returns-clause-fits : goal.returns-clause-fits
returns-clause-fits g c = λ kept marks f.
    let fits = c.drop_settled.ensures.fits kept marks f in
    let m = moment kept marks c.args.water in
    record {
      known = record {
        without = fits.known.without;
        lists = fits.known.lists;
        store = fits.known.store;
        held = fits.known.held;
        stood = c.drop_needless.ensures.stands m fits.known.without c.drop_settled.new.self.store refl fits.known.stood;
        bare = fits.known.bare;
      };
      none_settled = fits.none_settled;
      clock = inl c.requires.is_water;
    }

pub returns-clause-credit : goal.returns-clause-credit
returns-clause-credit g c = omega (arith, c.drop_settled.ensures.credit, c.drop_needless.ensures.credit)

pub returns-clause-ahead : goal.returns-clause-ahead
returns-clause-ahead g c = λ each. c.drop_needless.ensures.ahead c.args.water c.drop_settled.new.self.store (c.drop_settled.ensures.ahead each)
