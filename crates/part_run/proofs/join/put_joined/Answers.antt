-- The line that tells the form, and then the shards.
use Rattle.std.proofs.Common.{◌++◌, codes}
use Rattle.part_laws.specs.Joined.{joined, shards_from}
use Rattle.report_check.specs.Findings.{lists_of}
use Rattle.report_join.specs.ShardReports.{form_told}
use Rattle.emission_text.proofs.Sent.{both_put, first_failed, put_failed}
use Rattle.part_run.proofs.join.put_joined.Goals as goal

pub returns-in_err-put_front : goal.returns-in_err-put_front
unfolding joined
returns-in_err-put_front g c =
    let form = form_told c.args.second in
    let texts = lists_of c.args.texts.now in
    put_failed (joined form texts) c.args.out.now c.put_front.new.out c.put_front.new.sink c.from_residual.result c.from_residual.ensures.0
    (first_failed c.args.out.now form.front (shards_from form 0 texts ++ codes "end\n") c.in_err-put_front.ensures)

pub returns : goal.returns
unfolding joined
returns g c =
    let form = form_told c.args.second in
    let texts = lists_of c.args.texts.now in
    both_put c.args.out.now form.front (shards_from form 0 texts ++ codes "end\n") c.put_rest.new.out c.put_rest.new.sink c.put_rest.result c.in_ok-put_front.ensures c.put_rest.ensures
