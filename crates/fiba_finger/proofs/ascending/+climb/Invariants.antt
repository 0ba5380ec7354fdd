-- Each level is higher.
use Rattle.std.proofs.Common.{◌-◌}
use Rattle.fiba_finger.proofs.ascending.+climb.Given as goal

abbrev pub decreases-climb : goal.decreases-climb
decreases-climb g l = l.root.height - l.from.below
