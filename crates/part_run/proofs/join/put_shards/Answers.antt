-- Each shard is one part more.
use Rattle.std.proofs.Common.{◌+◌, ◌++◌, drop}
use Rattle.report_lines.specs.Lines.{header_line}
use Rattle.part_laws.specs.Joined.{body_of, shards_from}
use Rattle.report_check.specs.Findings.{lists_of}
use Rattle.report_join.specs.ShardReports.{form_told}
use Rattle.emission_text.proofs.Sent.{part_failed, part_put, put_failed}
use Rattle.part_run.proofs.Joins.{shard_put_as}
use Rattle.part_run.proofs.join.put_shards.Goals as goal

pub returns-in_err-put_shard : goal.returns-in_err-put_shard
returns-in_err-put_shard g c =
    let form = form_told c.args.second in
    let all = lists_of c.args.texts.now in
    let k = c.loop-k.k in
    put_failed (shards_from form 0 all) c.args.out.now c.put_shard.new.out c.put_shard.new.sink c.from_residual.result c.from_residual.ensures.0
    (part_failed c.loop-k.out (header_line k ++ c.body_of.result.now) (shards_from form (k + 1) (drop (k + 1) all)) (shard_put_as form c.args.texts.now k c.index-texts-k.result c.deref.result.now c.body_of.result.now c.loop-k-test.true c.index-texts-k.is c.deref.ensures.value c.body_of.ensures) c.loop-k.invariant c.in_err-put_shard.ensures)

pub loop-k-preserved : goal.loop-k-preserved
loop-k-preserved g c =
    let form = form_told c.args.second in
    let all = lists_of c.args.texts.now in
    let k = c.loop-k.k in
    part_put c.loop-k.out (header_line k ++ c.body_of.result.now) (shards_from form (k + 1) (drop (k + 1) all)) (shard_put_as form c.args.texts.now k c.index-texts-k.result c.deref.result.now c.body_of.result.now c.loop-k-test.true c.index-texts-k.is c.deref.ensures.value c.body_of.ensures) c.loop-k.invariant c.in_ok-put_shard.ensures
