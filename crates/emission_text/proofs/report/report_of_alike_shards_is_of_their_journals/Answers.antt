use Rattle.emission_text.proofs.Reports.{report_text-alike}
use Rattle.emission_text.proofs.report.report_of_alike_shards_is_of_their_journals.Goals as goal

pub returns : goal.returns
returns c = λ form d sources. report_text-alike form d sources c.args.shards.now
