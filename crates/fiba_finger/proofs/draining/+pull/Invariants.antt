use Rattle.fiba_finger.proofs.draining.+pull.Given as goal

-- proposed from what the function passes where it calls itself
abbrev pub decreases-pull : goal.decreases-pull
decreases-pull g l = l.below
