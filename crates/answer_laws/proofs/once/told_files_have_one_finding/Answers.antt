use Rattle.answer_laws.proofs.CheckOnce.{one_finding}
use Rattle.answer_laws.proofs.once.told_files_have_one_finding.Goals as goal

pub returns : goal.returns
returns g c = λ told words status other text written p q.
    one_finding told words c.text_has_one_finding.ensures p.opens q.opens p.well q.well g.K.Sink.taken g.K.Sink.faults p.old p.new q.old q.new status other text written p.answer q.answer p.wrote q.wrote
