use Rattle.model_laws.proofs.ChangesAfter.{changes_of_water, no_news_no_changes}
use Rattle.model_laws.proofs.changes.watermark_alone_completes.Goals as goal

pub returns-clause-completes : goal.returns-clause-completes
returns-clause-completes c = changes_of_water

pub returns-clause-stays : goal.returns-clause-stays
returns-clause-stays c = no_news_no_changes
