-- The slices part where all windows have settled, and what is left goes on to stand for the key.
use Rattle.std.proofs.Common.{◌≡◌, ◌∙◌, ◌+◌, ◌*◌, ◌-◌, length, ap, arith, inl, refl, sym}
use Rattle.std.specs.Prelude.{filter, nat_lt}
use Rattle.stream_base.specs.Model.Moments.{moment}
use Rattle.stream_base.specs.Model.Windows.{first_time}
use Rattle.slice_lists.specs.Touched.{marks_left}
use Rattle.slice_lists.proofs.LeaveFacts.{left_twice}
use Rattle.key_slicer.proofs.StateFacts.{aligned, all_stand, fits_purged, open_left, purge_step}
use Rattle.key_slicer.proofs.WorkFacts.{left}
use Rattle.key_slicer.proofs.key_state.KeyState.drop_settled.Goals as goal

pub drop_settled-requires : goal.drop_settled-requires
drop_settled-requires g c =
    let r = c.requires.key in
    let s = c.args.self.now in
    let d = c.args.defs.now in
    let m = moment r.0 r.1 c.args.water in
    let f = r.2 in
    aligned g.P.KeyPart.stands d (λ i part. g.P.KeyPart.settles_at d i c.args.water part) m s.next s.store s.parts.list.items c.first_unsettled-time.result f
    c.first_unsettled-time.ensures.least (c.first_unsettled-time.ensures.settles m f.without s.store c.args.water (omega arith) (all_stand g.P.KeyPart.stands d m c.args.water s.next s.store s.parts.list.items refl f))

pub returns-then-has_needless-clause-fits : goal.returns-then-has_needless-clause-fits
returns-then-has_needless-clause-fits g c = λ kept marks f.
    let s = c.args.self.now in
    let d = c.args.defs.now in
    let m = moment kept marks c.args.water in
    let time = c.first_unsettled-time.result in
    let p = purge_step g.P.KeyPart.stands d (λ i part. g.P.KeyPart.settles_at d i c.args.water part) m s.next s.store s.parts.list.items time f
    c.first_unsettled-time.ensures.least (c.first_unsettled-time.ensures.settles m f.without s.store c.args.water (omega arith) (all_stand g.P.KeyPart.stands d m c.args.water s.next s.store s.parts.list.items refl f))
    c.drop_settled.new.self (record { slices = c.drop_settled.ensures.slices; marks = c.drop_settled.ensures.marks; dropped = c.drop_settled.ensures.dropped }) (c.drop_settled.ensures.sliced d.windows) in
    fits_purged g.P.KeyPart.stands d kept marks c.args.water s.next f.without time p.0 s.store c.drop_settled.new.self c.drop_settled-then-has_needless.new.self.list.items c.requires.is_water f.lists p.1 c.drop_settled.ensures.marks
    (c.drop_settled-then-has_needless.ensures.stands m f.without time s.store p.0 c.drop_settled.new.self (record { water_is = refl; purge = p.1; stood = f.stood }) c.first_unsettled-time.ensures.least.by_each)
    f.bare
    (open_left g.P.KeyPart.stands d (λ i part. g.P.KeyPart.settles_at d i c.args.water part) m s.next s.store s.parts.list.items time f
    c.first_unsettled-time.ensures.least (c.first_unsettled-time.ensures.settles m f.without s.store c.args.water (omega arith) (all_stand g.P.KeyPart.stands d m c.args.water s.next s.store s.parts.list.items refl f)) c.drop_settled.new.self c.drop_settled.ensures.slices)

pub returns-else-has_needless-clause-fits : goal.returns-else-has_needless-clause-fits
returns-else-has_needless-clause-fits g c = λ kept marks f.
    let s = c.args.self.now in
    let d = c.args.defs.now in
    let m = moment kept marks c.args.water in
    record {
      known = f;
      none_settled = open_left g.P.KeyPart.stands d (λ i part. g.P.KeyPart.settles_at d i c.args.water part) m s.next s.store s.parts.list.items c.first_unsettled-time.result f
          c.first_unsettled-time.ensures.least (c.first_unsettled-time.ensures.settles m f.without s.store c.args.water (omega arith) (all_stand g.P.KeyPart.stands d m c.args.water s.next s.store s.parts.list.items refl f))
          s.store (sym (c.has_needless.ensures.slices c.if-has_needless.false));
      clock = inl c.requires.is_water;
    }

pub returns-then-has_needless-clause-work : goal.returns-then-has_needless-clause-work
returns-then-has_needless-clause-work g c =
    let s = c.args.self.now.store in
    let time = c.first_unsettled-time.result in
    let many : length (filter (λ run. nat_lt (first_time run) time) s.slices) ≡ length s.slices - length c.drop_settled.new.self.slices = omega (arith, left time s.slices, ap length c.drop_settled.ensures.slices) in
    let same : 64 * (s.reach + 2) * length (filter (λ run. nat_lt (first_time run) time) s.slices) ≡ 64 * (s.reach + 2) * (length s.slices - length c.drop_settled.new.self.slices) = ap (λ k. 64 * (s.reach + 2) * k) many in
    omega (arith, same, c.drop_settled.ensures.cost)

pub returns-then-has_needless-clause-ahead : goal.returns-then-has_needless-clause-ahead
returns-then-has_needless-clause-ahead g c = λ each.
    let r = c.requires.key in
    let s = c.args.self.now in
    let d = c.args.defs.now in
    let m = moment r.0 r.1 c.args.water in
    let f = r.2 in
    let time = c.first_unsettled-time.result in
    let p = purge_step g.P.KeyPart.stands d (λ i part. g.P.KeyPart.settles_at d i c.args.water part) m s.next s.store s.parts.list.items time f
    c.first_unsettled-time.ensures.least (c.first_unsettled-time.ensures.settles m f.without s.store c.args.water (omega arith) (all_stand g.P.KeyPart.stands d m c.args.water s.next s.store s.parts.list.items refl f))
    c.drop_settled.new.self (record { slices = c.drop_settled.ensures.slices; marks = c.drop_settled.ensures.marks; dropped = c.drop_settled.ensures.dropped }) (c.drop_settled.ensures.sliced d.windows) in
    c.drop_settled-then-has_needless.ensures.ahead m f.without time s.store p.0 c.drop_settled.new.self (record { water_is = refl; purge = p.1; stood = f.stood }) each

pub returns-then-has_needless-clause-marks : goal.returns-then-has_needless-clause-marks
returns-then-has_needless-clause-marks g c =
    let time = c.first_unsettled-time.result in
    let before = c.args.self.now.store.marks in
    let left = c.drop_settled.ensures.marks in
    record {
      time = time;
      least = c.first_unsettled-time.ensures.least;
      few = omega (arith, ap length (ap (marks_left time) left ∙ left_twice time before ∙ sym left));
    }

pub returns-else-has_needless-clause-marks : goal.returns-else-has_needless-clause-marks
returns-else-has_needless-clause-marks g c = record {
  time = c.first_unsettled-time.result;
  least = c.first_unsettled-time.ensures.least;
  few = c.has_needless.ensures.marks c.if-has_needless.false;
}
