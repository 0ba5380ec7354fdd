-- Each level is lower.
use Rattle.fiba_nodes.proofs.least.+first_item.Given as goal

abbrev pub decreases-first_item : goal.decreases-first_item
decreases-first_item g l = l.below
