-- All shards are right.
use Rattle.std.proofs.Common.{◌≡◌, ◌∙◌, length, subst, rules, arith}
use Rattle.std.proofs.lemmas.Bool.Decides.{nat_tests}
use Rattle.stream_base.specs.Model.Routes.{IsLawful}
use Rattle.report_check.specs.Findings.{AreJudged, lists_of}
use Rattle.report_check.proofs.Judging.{lawful_where_right}
use Rattle.report_check.proofs.judge.judge.Goals as goal

pub returns-in-None : goal.returns-in-None
returns-in-None c = λ d told.
    let sources = lists_of c.args.sources.now in
    let journals = c.args.journals.now in
    let same : c.args.text.now ≡ c.args.told.now = search rules in
    let count : length journals ≡ c.args.shards = grind (arith, nat_tests) in
    let judged = subst (λ found. AreJudged (length journals) sources journals found) c.in-None.is c.in_ok-shard.ensures in
    (same ∙ told, subst (λ js. IsLawful c.args.shards sources js) c.requires.journals (lawful_where_right c.args.shards sources journals count judged))
