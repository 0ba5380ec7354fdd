-- Each level is lower.
use Rattle.fiba_finger.proofs.edge.+rightmost.Given as goal

abbrev pub decreases-rightmost : goal.decreases-rightmost
decreases-rightmost g l = l.below
