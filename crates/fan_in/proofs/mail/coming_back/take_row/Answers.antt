use Rattle.std.proofs.Common.{get_or, length, refl, sym, ap, subst, ◌∙◌, arith, option_to_list}
use Rattle.std.proofs.lemmas.List.{get_or_default, get_or-set_other, length-set}
use Rattle.mail_lane.specs.Lane.{Lane, SenderState, with_back}
use Rattle.stream_base.specs.declared.entry.Entry.{Entry}
use Rattle.fan_in.specs.Settling.{MayTakeBack, TookBack}
use Rattle.fan_in.specs.declared.mail.owner_job.OwnerJob.{OwnerJob}
use Rattle.fan_in.proofs.Drained.{next_in, taken_first}
use Rattle.fan_in.proofs.Lists.{place_more}
use Rattle.fan_in.proofs.mail.coming_back.take_row.Goals as goal

pub take_back-requires : goal.take_back-requires
take_back-requires c =
    let h = c.loop-k.invariant in
    let k = c.loop-k.k in
    let o = c.index-owners-k.result in
    let box = c.unwrap-outbox.result in
    let is = (next_in c.args.row.items _ _ k box h.left (taken_first _ _ _ box c.next.ensures.items c.unwrap-outbox.ensures)).0 in
    let lane = get_or c.args.lanes.now k c.index-lanes-k.result in
    let may = subst (λ (l : Lane). MayTakeBack l (get_or c.loop-k.owners k o) box) (sym c.index-lanes-k.is)
    (subst (λ (j : OwnerJob). MayTakeBack lane j box) (sym (h.rest k o (omega arith)))
    (subst (λ (s : SenderState Entry). MayTakeBack lane (get_or c.args.owners.now k o) s) (sym is) (c.requires.may k c.index-lanes-k.result o box c.loop-k-test.true))) in
    let same = c.into_sender.ensures in
    record { receiver = may.own; sender = ap (λ (s : SenderState Entry). s.lane) same ∙ may.of_lane; next = ap (λ (s : SenderState Entry). s.number) same ∙ may.next }

pub loop-k-preserved : goal.loop-k-preserved
loop-k-preserved c =
    let h = c.loop-k.invariant in
    let k = c.loop-k.k in
    let lk = c.loop-k-test.true in
    let owners = c.loop-k.owners in
    let o = c.index-owners-k.result in
    let box = c.unwrap-outbox.result in
    let next = next_in c.args.row.items _ _ k box h.left (taken_first _ _ _ box c.next.ensures.items c.unwrap-outbox.ensures) in
    let one = ap (λ x. length (option_to_list x)) c.unwrap-outbox.ensures in
    let sent = λ (s : SenderState Entry). ap (λ (x : SenderState Entry). x.sent) (c.into_sender.ensures ∙ next.0 ∙ get_or_default c.args.row.items k box s (omega (arith, c.requires.all))) in
    record {
      len = omega (arith, c.next.ensures.len, one, h.len);
      left = next.1;
      many = length-set owners k _ ∙ h.many;
      rest = λ j d l. get_or-set_other owners k j _ d (λ q. omega arith) ∙ h.rest j d (omega arith);
      back = place_more (λ j (a b : OwnerJob). (s : SenderState Entry) → TookBack (get_or c.args.row.items j s).sent a b) k c.args.owners.now owners o _ h.many (omega (arith, c.requires.one_each)) h.rest h.back
          (λ s. record { receiver = c.take_back.ensures.back ∙ ap (with_back (get_or owners k o).receiver) (sent s); owner = refl });
    }

pub returns-clause-back : goal.returns-clause-back
returns-clause-back c k o s l = c.loop-k.invariant.back k o (omega (arith, c.requires.one_each)) s
