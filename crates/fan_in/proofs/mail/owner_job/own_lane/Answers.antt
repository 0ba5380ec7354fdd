use Rattle.fan_in.proofs.Posted.{owns_more}
use Rattle.std.proofs.Common.{refl}
use Rattle.fan_in.proofs.mail.owner_job.own_lane.Goals as goal

pub looks-preserved-in-Some-take : goal.looks-preserved-in-Some-take
looks-preserved-in-Some-take g c = (tt, tt, owns_more _ _ _ _ c.looks.job _ _ c.in-Some-take.message c.looks.invariant.2 c.in-Some-take.ensures.some refl (c.take_in.ensures.after _ _ _ _))
