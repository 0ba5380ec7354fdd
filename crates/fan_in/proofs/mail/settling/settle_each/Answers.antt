use Rattle.std.proofs.Common.{arith, ◌≡◌, ◌<◌, get_or, length, option_to_list, subst, ap, ◌∙◌}
use Rattle.std.proofs.lemmas.Grind.{common_steps}
use Rattle.fan_in.specs.Settling.{Follows}
use Rattle.fan_in.proofs.Drained.{taken_first}
use Rattle.fan_in.proofs.Settled.{next_back, settle_more}
use Rattle.fan_in.proofs.mail.settling.settle_each.Goals as goal

pub settle_lane-owner-requires-clause-back : goal.settle_lane-owner-requires-clause-back
settle_lane-owner-requires-clause-back g c κs within =
    let lk : c.loop-k._k < length c.args.lanes.items = omega (arith, c.len-many.ensures, c.args.lanes.ok.0) in
    next_back (λ e. e.outcome) _ _ _ _ _ _ _ _ _ _ _ _ c.unwrap-mail.result c.unwrap-job.result c.loop-k.invariant.settling c.requires.back lk c.requires.over
    (taken_first _ _ _ c.unwrap-mail.result c.next.ensures.items c.unwrap-mail.ensures) (taken_first _ _ _ c.unwrap-job.result c.next-in-loop-k.ensures.items c.unwrap-job.ensures)

pub loop-k-preserved : goal.loop-k-preserved
loop-k-preserved g c =
    let h = c.loop-k.invariant in
    let one_mail = ap (λ o. length (option_to_list o)) c.unwrap-mail.ensures in
    let one_job = ap (λ o. length (option_to_list o)) c.unwrap-job.ensures in
    let lk : c.loop-k._k < length c.args.lanes.items = omega (arith, c.len-many.ensures, c.args.lanes.ok.0) in
    let lane = c.settle_lane-owner.ensures in
    record {
      lanes_len = omega (arith, c.next.ensures.len, one_mail, h.lanes_len);
      owners_len = omega (arith, c.next-in-loop-k.ensures.len, one_job, h.owners_len);
      room = grind (arith, common_steps);
      feeds = λ i e l. c.take_notes.ensures.same.feeds i e (omega (arith, h.settling.many_olds, h.settling.many_news)) ∙ h.feeds i e l;
      settling = rw c.push_reserved.ensures.items (settle_more (λ e. e.outcome) _ _ _ _ _ _ _ _ _ _ _ _ c.unwrap-mail.result c.unwrap-job.result h.settling c.requires.back lk c.requires.over
          (taken_first _ _ _ c.unwrap-mail.result c.next.ensures.items c.unwrap-mail.ensures) (taken_first _ _ _ c.unwrap-job.result c.next-in-loop-k.ensures.items c.unwrap-job.ensures)
          c.settle_lane-owner.result _ lane.settled lane.about lane.held c.take_notes.ensures.same.many c.take_notes.ensures.outcomes);
    }

pub returns-clause-follows : goal.returns-clause-follows
returns-clause-follows g c i e l =
    let h = c.loop-k.invariant.settling in
    let is : c.loop-k._k ≡ length c.args.lanes.items = omega (arith, c.len-many.ensures, c.args.lanes.ok.0) in
    subst (λ n. Follows n (get_or c.args.ends.now i e).outcome (get_or c.loop-k.ends i e).outcome) is (h.follows i e (omega (arith, h.many_olds)))

pub returns-clause-held : goal.returns-clause-held
returns-clause-held g c k i o e s lk li =
    let h = c.loop-k.invariant.settling in
    h.held k i o e s (omega (arith, c.len-many.ensures, c.args.lanes.ok.0)) (omega (arith, h.many_olds))
