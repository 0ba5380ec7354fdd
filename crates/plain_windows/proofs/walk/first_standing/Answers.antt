-- It is the first that is left under the view's own watermark.
use Rattle.std.proofs.Common.{ap}
use Rattle.stream_base.specs.Model.Changes.{Moment}
use Rattle.plain_windows.proofs.walk.first_standing.Goals as goal

pub returns : goal.returns
returns c = rw (← ap (λ (m : Moment). m.water) c.view.view_is) c.first_left.ensures
