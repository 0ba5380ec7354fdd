-- Each level is lower.
use Rattle.fiba_nodes.proofs.applying.+apply.Given as goal

abbrev pub decreases-apply : goal.decreases-apply
decreases-apply g l = l.below
