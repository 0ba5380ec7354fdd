-- The last shard has one line more.
use Rattle.std.proofs.Common.{◌≡◌, ◌<◌, length, rules}
use Rattle.std.proofs.lemmas.Bool.Decides.{nat_tests}
use Rattle.report_rows.proofs.TextFacts.{last_steps}
use Rattle.report_rows.proofs.told.last_line.Goals as goal

pub returns : goal.returns
returns c =
    let long : c.len-last.result ≡ length c.args.shards.now.items = search rules in
    let some : 0 < c.len-last.result = search (rules, nat_tests) in
    last_steps c.args.full c.args.line.now c.args.shards.now.items c.len-last.result c.index_mut.result.now c.line.new.self c.line.result long some c.index_mut.ensures.value c.line.ensures
