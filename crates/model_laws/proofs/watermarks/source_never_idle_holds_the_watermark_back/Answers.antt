use Rattle.model_laws.proofs.WatermarkBounds.{never_idle_holds_back}
use Rattle.model_laws.proofs.watermarks.source_never_idle_holds_the_watermark_back.Goals as goal

pub returns : goal.returns
returns c = λ sources source journal l h idle. never_idle_holds_back sources source l journal h idle
