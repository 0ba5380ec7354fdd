-- The last journal has one entry more.
use Rattle.std.proofs.Common.{◌≡◌, ◌<◌, length, rules}
use Rattle.std.proofs.lemmas.Bool.Decides.{nat_tests}
use Rattle.report_check.proofs.Reading.{put_last}
use Rattle.report_check.proofs.read.put_last.Goals as goal

pub returns : goal.returns
returns c =
    let long : c.len-last.result ≡ length c.args.journals.now.items = search rules in
    let some : 0 < c.len-last.result = search (rules, nat_tests) in
    put_last c.push.result c.args.journals.now.items (record { source = c.args.source; what = c.args.what }) c.len-last.result c.index_mut.result.now c.push.new.self long some c.index_mut.ensures.value c.push.ensures
