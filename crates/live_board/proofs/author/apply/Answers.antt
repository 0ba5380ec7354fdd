-- The counts follow the changes, and none of them runs over or below nothing.
use Rattle.std.proofs.Common.{arith}
use Rattle.live_board.proofs.Authors.{changes_are, count_is, counted_more, counts_fit, retractions_fit}
use Rattle.live_board.proofs.author.apply.Goals as goal

pub tally_after-requires-clause-entries : goal.tally_after-requires-clause-entries
tally_after-requires-clause-entries g c = omega (arith, c.requires.counts.entries, c.requires.next.few)

pub tally_after-requires-clause-fit : goal.tally_after-requires-clause-fit
tally_after-requires-clause-fit g c w few =
    let old = c.args.shard.now in
    let is = changes_are old c.apply.new.self c.args.entry.now c.in-Ok.applied.position c.changes_at.result c.in-Ok.ensures.applies.applied c.in-Ok.ensures.applies.position c.changes_at.ensures in
    let all = count_is old c.apply.new.self c.args.entry.now c.change_count-changes.result c.in-Ok.ensures.applies.applied c.change_count-changes.ensures in
    omega (arith, counts_fit old c.args.entry.now c.changes_at.result w c.change_count-changes.result _ c.in-Ok.ensures.limits is all (c.requires.counts.counts w few))

pub tally_after-requires-clause-stood : goal.tally_after-requires-clause-stood
tally_after-requires-clause-stood g c w few =
    let old = c.args.shard.now in
    let is = changes_are old c.apply.new.self c.args.entry.now c.in-Ok.applied.position c.changes_at.result c.in-Ok.ensures.applies.applied c.in-Ok.ensures.applies.position c.changes_at.ensures in
    retractions_fit old c.args.entry.now c.changes_at.result w _ c.in-Ok.ensures.limits is (c.requires.counts.counts w few)

pub returns-in-Ok-clause-counts : goal.returns-in-Ok-clause-counts
returns-in-Ok-clause-counts g c =
    let old = c.args.shard.now in
    let is = changes_are old c.apply.new.self c.args.entry.now c.in-Ok.applied.position c.changes_at.result c.in-Ok.ensures.applies.applied c.in-Ok.ensures.applies.position c.changes_at.ensures in
    counted_more old c.args.entry.now c.changes_at.result c.args.tally.now c.tally_after.result c.in-Ok.ensures.limits is c.requires.counts c.tally_after.ensures.entries c.tally_after.ensures.many c.tally_after.ensures.counts
