use Rattle.std.proofs.Common.{◌≡◌, ◌<◌, ◌∙◌, get_or, length, arith, ap, sym, subst, option_to_list}
use Rattle.std.specs.Prelude.{Vec}
use Rattle.std.specs.declared.alloc.Global.{Global}
use Rattle.std.proofs.lemmas.List.{get_or_default}
use Rattle.mail_lane.specs.Lane.{SenderState}
use Rattle.stream_base.specs.declared.entry.Entry.{Entry}
use Rattle.fan_in.specs.Posts.{AreBoxesOf}
use Rattle.fan_in.specs.Settling.{HasBack}
use Rattle.fan_in.proofs.Drained.{next_in, taken_first}
use Rattle.fan_in.proofs.Lists.{some_of}
use Rattle.fan_in.proofs.Settled.{back_more, may_take_row}
use Rattle.fan_in.proofs.mail.coming_back.bring_back.Goals as goal

pub take_row-requires-clause-all : goal.take_row-requires-clause-all
take_row-requires-clause-all c =
    let h = c.loop-i.invariant.bringing in
    let row = c.unwrap-row.result in
    let is = (next_in c.args.rows.items _ _ c.loop-i._i row h.left_is (taken_first _ _ _ row c.next.ensures.items c.unwrap-row.ensures)).0 in
    ap (λ (r : Vec (SenderState Entry) Global). length r.items) is ∙ (c.requires.boxes c.loop-i._i row (omega (arith, c.len-many.ensures, c.args.rows.ok.0))).many

pub take_row-requires-clause-may : goal.take_row-requires-clause-may
take_row-requires-clause-may c =
    let h = c.loop-i.invariant.bringing in
    let i = c.loop-i._i in
    let row = c.unwrap-row.result in
    let is = (next_in c.args.rows.items _ _ i row h.left_is (taken_first _ _ _ row c.next.ensures.items c.unwrap-row.ensures)).0 in
    let boxes = subst (λ (r : Vec (SenderState Entry) Global). AreBoxesOf i c.args.lanes.now r.items) (sym is) (c.requires.boxes i row (omega (arith, c.len-many.ensures, c.args.rows.ok.0))) in
    may_take_row _ _ _ c.args.rows.items i row.items c.requires.unsettled boxes h.back

pub loop-i-preserved : goal.loop-i-preserved
loop-i-preserved c =
    let h = c.loop-i.invariant.bringing in
    let i = c.loop-i._i in
    let row = c.unwrap-row.result in
    let next = next_in c.args.rows.items _ _ i row h.left_is (taken_first _ _ _ row c.next.ensures.items c.unwrap-row.ensures) in
    let one = ap (λ x. length (option_to_list x)) c.unwrap-row.ensures in
    let li : i < length c.args.rows.items = omega (arith, c.len-many.ensures, c.args.rows.ok.0) in
    record {
      len = omega (arith, c.next.ensures.len, one, c.loop-i.invariant.len);
      bringing = record {
        left_is = next.1;
        many = c.take_row.ensures.many ∙ h.many;
        back = λ k o l.
            let at = λ (r : Vec (SenderState Entry) Global). next.0 ∙ get_or_default c.args.rows.items i row r li in
            let lk : k < length c.loop-i.owners = omega (arith, h.many) in
            let lr : k < length row.items = omega (arith, ap (λ (r : Vec (SenderState Entry) Global). length r.items) next.0, (c.requires.boxes i row li).many, c.requires.unsettled.many) in
            let b = some_of row.items k lr in
            back_more i k c.args.rows.items _ _ _ _ (h.back k o l) (c.take_row.ensures.back k o b lk)
            (λ r s. ap (λ (x : SenderState Entry). x.sent) (get_or_default row.items k b s lr) ∙ ap (λ (x : Vec (SenderState Entry) Global). (get_or x.items k s).sent) (at r));
      };
    }

pub returns-clause-back : goal.returns-clause-back
returns-clause-back c k o l =
    let is : c.loop-i._i ≡ length c.args.rows.items = omega (arith, c.len-many.ensures, c.args.rows.ok.0) in
    subst (λ n. HasBack n k c.args.rows.items (get_or c.args.owners.now k o) (get_or c.loop-i.owners k o)) is (c.loop-i.invariant.bringing.back k o l)
