use Rattle.std.proofs.Common.{◌≡◌, ◌++◌, ◌∷◌, [], get_or, length, ap, sym, ◌∙◌, arith, option_to_list}
use Rattle.stream_base.specs.declared.entry.Entry.{Entry}
use Rattle.mail_lane.specs.Lane.{SenderState}
use Rattle.fan_in.proofs.Drained.{next_in, taken_first}
use Rattle.fan_in.proofs.Posted.{box_more}
use Rattle.fan_in.proofs.mail.post.hand_outboxes.Goals as goal

pub new-requires : goal.new-requires
new-requires c =
    let sender = c.unwrap-sender.result in
    let next = taken_first _ _ _ sender c.next.ensures.items c.unwrap-sender.ensures in
    let is = (next_in c.args.senders.items _ _ c.loop-i.i sender c.loop-i.invariant.handing.left_is next).0 in
    ap (λ (s : SenderState Entry). s.sent) is ∙ c.requires.unsent c.loop-i.i sender (omega (arith, c.loop-i-test.true, c.requires.one_each))

pub loop-i-preserved : goal.loop-i-preserved
loop-i-preserved c =
    let h = c.loop-i.invariant.handing in
    let sender = c.unwrap-sender.result in
    let next = taken_first _ _ _ sender c.next.ensures.items c.unwrap-sender.ensures in
    let one = ap (λ o. length (option_to_list o)) c.unwrap-sender.ensures in
    let row = c.index-rows-i.result in
    let before = get_or c.loop-i.rows c.loop-i.i row in
    let adds : c.push.new.self.items ≡ before.items ++ sender ∷ [] = c.in_ok-push.ensures.items ∙ ap (λ s. before.items ++ s ∷ []) c.new.ensures in
    record {
      len = omega (arith, c.next.ensures.len, one, c.loop-i.invariant.len);
      handing = box_more _ _ _ _ _ _ _ sender row c.push.new.self h c.requires.senders c.requires.unsent c.loop-i-test.true c.requires.one_each (sym (ap (λ l. get_or l 0 sender) next)) (next_in c.args.senders.items _ _ c.loop-i.i sender h.left_is next).1 adds;
    }
