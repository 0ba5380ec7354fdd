-- Each shard is one part more.
use Rattle.std.proofs.Common.{◌+◌, ◌++◌, drop}
use Rattle.report_lines.specs.Lines.{header_line}
use Rattle.emission_text.specs.Report.{lines_from, lines_of}
use Rattle.report_lines.specs.Forms.{form_of}
use Rattle.emission_text.proofs.Reports.{lines_from-more}
use Rattle.emission_text.proofs.Sent.{part_failed, part_put, put_failed}
use Rattle.emission_text.proofs.report.put_shards.Goals as goal

pub returns-in_err-put_shard : goal.returns-in_err-put_shard
returns-in_err-put_shard g c =
    put_failed (lines_from (form_of c.args.form) 0 c.args.shards.now) c.args.out.now c.put_shard.new.out c.put_shard.new.sink c.from_residual.result c.from_residual.ensures.0
    (part_failed c.loop-k.out (header_line c.loop-k.k ++ lines_of (form_of c.args.form) c.index-shards-k.result) (lines_from (form_of c.args.form) (c.loop-k.k + 1) (drop (c.loop-k.k + 1) c.args.shards.now))
    (lines_from-more (form_of c.args.form) c.args.shards.now c.loop-k.k c.index-shards-k.result c.loop-k-test.true c.index-shards-k.is) c.loop-k.invariant c.in_err-put_shard.ensures)

pub loop-k-preserved : goal.loop-k-preserved
loop-k-preserved g c =
    part_put c.loop-k.out (header_line c.loop-k.k ++ lines_of (form_of c.args.form) c.index-shards-k.result) (lines_from (form_of c.args.form) (c.loop-k.k + 1) (drop (c.loop-k.k + 1) c.args.shards.now))
    (lines_from-more (form_of c.args.form) c.args.shards.now c.loop-k.k c.index-shards-k.result c.loop-k-test.true c.index-shards-k.is) c.loop-k.invariant c.in_ok-put_shard.ensures
