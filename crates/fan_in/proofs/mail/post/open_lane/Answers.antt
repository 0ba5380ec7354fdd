use Rattle.std.proofs.Common.{ap, sym, ◌∙◌, ◌≡◌, ◌∷◌, [], length, length-append, arith}
use Rattle.fan_in.proofs.Lists.{written}
use Rattle.fan_in.proofs.Posted.{one_lane_more, owns_first}
use Rattle.fan_in.proofs.mail.post.open_lane.Goals as goal

pub returns : goal.returns
returns c =
    let rows = c.args.rows.now in
    let lent = c.as_mut_slice.ensures.value in
    let len : rows.len ≡ length rows.items = omega (arith, rows.ok.0) in
    let many : length c.hand_outboxes.new.rows ≡ length rows.items = c.hand_outboxes.ensures.many ∙ ap length lent in
    let w = written rows.len rows.items c.hand_outboxes.new.rows len many in
    let mail = c.in_ok-mail.ensures in
    let owns = owns_first _ _ _ _ _ c.in_ok-mail.mail c.in_ok-mail.receiver c.new-owner.result c.in_ok-shard.shard c.in_ok-copy.ensures.equal c.in_ok-shard.ensures (sym c.requires.open.0) mail.receiver mail.untaken c.new-owner.ensures.nothing in
    let lanes = c.args.post.now.lanes.items in
    record {
      «open» = (
        ap length c.in_ok-push.ensures.items ∙ omega (arith, c.requires.open.0, length-append lanes (c.in_ok-mail.mail ∷ [])),
        rw (c.in_ok-push.ensures.items, c.in_ok-push-2.ensures.items, w) (one_lane_more _ _ _ _ rows.items _ _ _ c.requires.open.1 mail.count owns many (rw lent at c.in_ok-hand_outboxes.ensures.rows)),
      );
    }
