use Rattle.std.proofs.Common.{subst, ap, ◌∙◌, ◌≡◌, length, arith}
use Rattle.fan_in.specs.Floors.{GainSeats, IsZero}
use Rattle.fan_in.proofs.Lists.{written}
use Rattle.fan_in.proofs.Opening.{one_desk_more, part_of}
use Rattle.fan_in.proofs.turns.floor.open_desk.Goals as goal

pub returns-clause-open : goal.returns-clause-open
returns-clause-open c =
    let rows = c.args.rows.now in
    let lent = c.as_mut_slice.ensures.value in
    let part = c.in_ok-desk.ensures.fixed ∙ part_of _ _ _ _ c.new-2.ensures c.in_ok-shard.ensures c.in_ok-copy.ensures.equal in
    let len : rows.len ≡ length rows.items = omega (arith, rows.ok.0) in
    let many : length c.hand_passes.new.rows ≡ length rows.items = c.hand_passes.ensures.many ∙ ap length lent in
    let w = written rows.len rows.items c.hand_passes.new.rows len many in
    let zero = subst (λ f. IsZero c.in_ok-desk.desk f c.args.plan.now.sources c.hand_passes.new.zero) part (rw (lent, c.requires.open.many) at c.in_ok-hand_passes.ensures.zero) in
    let rows_are = subst (λ f. GainSeats c.in_ok-desk.desk f rows.items c.hand_passes.new.rows) part (rw lent at c.in_ok-hand_passes.ensures.rows) in
    rw (c.in_ok-push.ensures.items, c.in_ok-push-2.ensures.items, w)
    (one_desk_more _ _ _ _ rows.items _ _ _ c.requires.open zero many rows_are)
