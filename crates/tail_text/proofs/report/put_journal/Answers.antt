-- The lines at each position are one part more.
use Rattle.std.proofs.Common.{◌+◌, ◌<◌, ◌≤◌, ◌++◌, length, map, arith}
use Rattle.emission_text.proofs.Sent.{appends_nothing, part_failed, part_put, put_failed}
use Rattle.tail_text.specs.Texts.{journal_with, lines_with}
use Rattle.tail_text.proofs.TextFacts.{lines_from, lines_from-end, lines_from-more, part_end}
use Rattle.tail_text.proofs.report.put_journal.Goals as goal

pub returns-in_err-put_position : goal.returns-in_err-put_position
returns-in_err-put_position g c =
    let journal = c.args.shard.now.journal in
    let lists = c.args.lists.now in
    let position = c.loop-position.position in
    let e = c.entry_at.result in
    let changes = c.deref.result.now in
    let within : position < length journal = omega arith in
    let also : position < length lists = omega arith in
    put_failed (journal_with journal (map (λ v. v.items) lists)) c.args.out.now c.put_position.new.out c.put_position.new.sink c.from_residual.result c.from_residual.ensures.0
    (part_failed c.loop-position.out (lines_with e changes) (lines_from journal (map (λ v. v.items) lists) (position + 1))
    (lines_from-more journal lists position e c.index-lists-position.result changes within also c.entry_at.ensures c.index-lists-position.is c.deref.ensures.value) c.loop-position.invariant c.in_err-put_position.ensures)

pub loop-position-preserved : goal.loop-position-preserved
loop-position-preserved g c =
    let journal = c.args.shard.now.journal in
    let lists = c.args.lists.now in
    let position = c.loop-position.position in
    let e = c.entry_at.result in
    let changes = c.deref.result.now in
    let within : position < length journal = omega arith in
    let also : position < length lists = omega arith in
    part_put c.loop-position.out (lines_with e changes) (lines_from journal (map (λ v. v.items) lists) (position + 1))
    (lines_from-more journal lists position e c.index-lists-position.result changes within also c.entry_at.ensures c.index-lists-position.is c.deref.ensures.value) c.loop-position.invariant c.in_ok-put_position.ensures

pub loop-position-init : goal.loop-position-init
loop-position-init g c = appends_nothing (c.args.out.now ++ journal_with c.args.shard.now.journal (map (λ v. v.items) c.args.lists.now)) c.args.sink.now

pub returns : goal.returns
returns g c =
    let journal = c.args.shard.now.journal in
    let lists = map (λ v. v.items) c.args.lists.now in
    let position = c.loop-position.position in
    let past : length journal ≤ position = omega arith in
    part_end c.loop-position.out (lines_from journal lists position) (lines_from-end journal lists position past) c.loop-position.invariant
