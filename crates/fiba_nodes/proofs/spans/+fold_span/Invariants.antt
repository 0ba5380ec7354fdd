-- Each level is lower.
use Rattle.fiba_nodes.proofs.spans.+fold_span.Given as goal

abbrev pub decreases-fold_span : goal.decreases-fold_span
decreases-fold_span g l = l.height
