use Rattle.model_laws.proofs.Lawful.{own_water, own_watermark_decides}
use Rattle.model_laws.proofs.routes.own_watermark_decides_what_is_late.Goals as goal

pub returns-clause-own : goal.returns-clause-own
returns-clause-own c = own_water

pub returns-clause-in_time : goal.returns-clause-in_time
returns-clause-in_time c = own_watermark_decides
