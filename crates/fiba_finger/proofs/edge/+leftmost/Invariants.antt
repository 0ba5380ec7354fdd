-- Each level is lower.
use Rattle.fiba_finger.proofs.edge.+leftmost.Given as goal

abbrev pub decreases-leftmost : goal.decreases-leftmost
decreases-leftmost g l = l.below
