use Rattle.fan_in.specs.Posts.{OwnsLane}
use Rattle.fan_in.proofs.mail.owner_job.own_lane.Given as goal

abbrev pub invariant-looks : goal.invariant-looks
invariant-looks g l =
    (goal.iterator-looks g).can_next l.iterator' ×
    (goal.iterator-looks g).is_finite l.iterator' ×
    OwnsLane l.plan.defs l.plan.sources l.fn.job.owner.number l.mail l.job
