use Rattle.playout.proofs.reach.+reach_below.Given as goal

abbrev pub decreases-reach_below : goal.decreases-reach_below
decreases-reach_below l = l.n
