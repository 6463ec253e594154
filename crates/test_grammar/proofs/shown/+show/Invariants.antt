use Rattle.test_grammar.proofs.shown.+show.Given as goal

abbrev pub decreases-show : goal.decreases-show
decreases-show g l = l.depth
