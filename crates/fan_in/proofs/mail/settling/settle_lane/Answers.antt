use Rattle.fan_in.proofs.Settled.{at_end, calm, end_about, end_held, end_settled}
use Rattle.fan_in.proofs.mail.settling.settle_lane.Goals as goal

pub unreachable-requires : goal.unreachable-requires
unreachable-requires g c =
    calm _ _ _ _ _ _ (at_end _ _ _ c.args.mail c.args.job _ c.settle-settled.result _ _ c.requires.back c.new.ensures.items c.settle-settled.ensures.taken c.settle-settled.ensures.sent c.apply_rest.ensures.whole c.apply_rest.ensures.sent (c.apply_rest.ensures.after _ _ _)) c.if-owner.true

pub returns : goal.returns
returns g c =
    let end = at_end _ _ _ c.args.mail c.args.job _ c.settle-settled.result _ _ c.requires.back c.new.ensures.items c.settle-settled.ensures.taken c.settle-settled.ensures.sent c.apply_rest.ensures.whole c.apply_rest.ensures.sent (c.apply_rest.ensures.after _ _ _) in
    record { settled = end_settled _ _ _ _ _ _ end; about = λ i. end_about _ _ _ i _ _ _ end; held = λ i. end_held _ _ _ i _ _ _ end }
