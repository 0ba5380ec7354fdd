use Rattle.answer_laws.proofs.MadeOnce.{one_summary}
use Rattle.answer_laws.proofs.once.made_run_has_one_summary.Goals as goal

pub returns : goal.returns
returns g c = λ m status other text written p q.
    one_summary g.K.Sink.taken g.K.Sink.faults m p.old p.new q.old q.new status other text written p.answer q.answer p.wrote q.wrote
