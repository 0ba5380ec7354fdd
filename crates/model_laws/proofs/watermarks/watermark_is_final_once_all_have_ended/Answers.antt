use Rattle.model_laws.proofs.WatermarkBounds.{water_at_most, final_once_all_ended}
use Rattle.model_laws.proofs.watermarks.watermark_is_final_once_all_have_ended.Goals as goal

pub returns-clause-at_most : goal.returns-clause-at_most
returns-clause-at_most c = water_at_most

pub returns-clause-final_once : goal.returns-clause-final_once
returns-clause-final_once c = final_once_all_ended
