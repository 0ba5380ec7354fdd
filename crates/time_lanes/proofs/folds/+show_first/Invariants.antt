-- Each call shows one interval less.
use Rattle.time_lanes.proofs.folds.+show_first.Given as goal

abbrev pub decreases-show_first : goal.decreases-show_first
decreases-show_first g l = l.count
