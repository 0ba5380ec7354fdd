-- The shards, and then the last line.
use Rattle.std.proofs.Common.{◌++◌, codes}
use Rattle.part_laws.specs.Joined.{shards_from}
use Rattle.report_check.specs.Findings.{lists_of}
use Rattle.report_join.specs.ShardReports.{form_told}
use Rattle.emission_text.proofs.Sent.{both_put, first_failed, put_failed}
use Rattle.part_run.proofs.join.put_rest.Goals as goal

pub returns-in_err-put_shards : goal.returns-in_err-put_shards
returns-in_err-put_shards g c =
    let lines = shards_from (form_told c.args.second) 0 (lists_of c.args.texts.now) in
    put_failed (lines ++ codes "end\n") c.args.out.now c.put_shards.new.out c.put_shards.new.sink c.from_residual.result c.from_residual.ensures.0 (first_failed c.args.out.now lines (codes "end\n") c.in_err-put_shards.ensures)

pub returns : goal.returns
returns g c =
    both_put c.args.out.now (shards_from (form_told c.args.second) 0 (lists_of c.args.texts.now)) (codes "end\n") c.put_pieces.new.out c.put_pieces.new.sink c.put_pieces.result c.in_ok-put_shards.ensures c.put_pieces.ensures
