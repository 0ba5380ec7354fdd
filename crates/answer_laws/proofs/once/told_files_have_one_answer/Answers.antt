use Rattle.answer_laws.proofs.RunOnce.{one_answer}
use Rattle.answer_laws.proofs.once.told_files_have_one_answer.Goals as goal

pub returns : goal.returns
returns g c = λ told run status other text written p q.
    one_answer told run c.journals_of_one_source_hold_its_routed_entries.ensures p.opens q.opens p.well q.well g.K.Sink.taken g.K.Sink.faults p.old p.new q.old q.new status other text written p.answer q.answer p.wrote q.wrote
