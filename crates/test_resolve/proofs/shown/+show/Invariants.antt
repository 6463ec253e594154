use Rattle.test_resolve.proofs.shown.+show.Given as goal

abbrev pub decreases-show : goal.decreases-show
decreases-show g l = l.depth
