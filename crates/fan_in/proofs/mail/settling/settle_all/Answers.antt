use Rattle.std.proofs.Common.{arith, ◌<◌, get_or, length, List, sym, subst, ap, ◌∙◌}
use Rattle.stream_base.specs.declared.entry.Entry.{Entry}
use Rattle.stream_base.specs.declared.limits.TheConstants.{JOURNAL_MAX}
use Rattle.fan_in.specs.Settling.{HoldsSent}
use Rattle.fan_in.proofs.Lists.{some_of, written}
use Rattle.fan_in.proofs.Settled.{all_back, unsettled}
use Rattle.fan_in.proofs.mail.settling.settle_all.Goals as goal

pub bring_back-requires-clause-unsettled : goal.bring_back-requires-clause-unsettled
bring_back-requires-clause-unsettled g c = rw (c.deref.ensures.value, c.as_mut_slice.ensures.value) (unsettled _ _ _ _ c.requires.owned)

pub bring_back-requires-clause-boxes : goal.bring_back-requires-clause-boxes
bring_back-requires-clause-boxes g c = rw c.deref.ensures.value (λ i row l. c.requires.rows.boxes i row (omega (arith, c.requires.rows.many)))

pub settle_each-requires-clause-back : goal.settle_each-requires-clause-back
settle_each-requires-clause-back g c κs within =
    let owners = c.args.owners in
    let w = written owners.len owners.items c.bring_back.new.owners (omega (arith, owners.ok.0)) (c.bring_back.ensures.many ∙ ap length c.as_mut_slice.ensures.value) in
    let back = rw c.as_mut_slice.ensures.value at c.bring_back.ensures.back in
    rw w (all_back _ _ _ owners.items c.bring_back.new.owners c.args.rows.items c.requires.owned c.requires.rows (c.bring_back.ensures.many ∙ ap length c.as_mut_slice.ensures.value) back)

pub settle_each-requires-clause-over : goal.settle_each-requires-clause-over
settle_each-requires-clause-over g c κs within =
    let owners = c.args.owners in
    let w = written owners.len owners.items c.bring_back.new.owners (omega (arith, owners.ok.0)) (c.bring_back.ensures.many ∙ ap length c.as_mut_slice.ensures.value) in
    let back = rw c.as_mut_slice.ensures.value at c.bring_back.ensures.back in
    rw w (λ i k o e l lk full.
    let row = some_of c.args.rows.items i (omega (arith, c.requires.rows.many, c.requires.one_each)) in
    let s = some_of (get_or c.args.rows.items i row).items k (omega (arith, (c.requires.rows.boxes i row (omega (arith, c.requires.one_each))).many)) in
    let is = back k o (omega (arith, c.requires.owned.many)) in
    subst (λ (sent : List Entry). JOURNAL_MAX < length sent) (sym (is.back i row s (omega (arith, c.requires.rows.many, c.requires.one_each)))) (c.requires.over i k row s e l full))

pub returns-clause-held : goal.returns-clause-held
returns-clause-held g c k i row b e s lk li =
    let owners = c.args.owners in
    let w = written owners.len owners.items c.bring_back.new.owners (omega (arith, owners.ok.0)) (c.bring_back.ensures.many ∙ ap length c.as_mut_slice.ensures.value) in
    let o = some_of owners.items k (omega (arith, c.requires.owned.many)) in
    let back = rw c.as_mut_slice.ensures.value at c.bring_back.ensures.back in
    let held = rw w at c.settle_each.ensures.held in
    let is = back k o (omega (arith, c.requires.owned.many)) in
    subst (λ (sent : List Entry). HoldsSent k i sent (get_or c.settle_each.new.ends i e).outcome (get_or c.settle_each.new.shards.items k s).journal) (is.back i row b (omega (arith, c.requires.rows.many, c.requires.one_each)))
    (held k i o e s lk li)
