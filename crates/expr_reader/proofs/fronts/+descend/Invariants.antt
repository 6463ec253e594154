use Rattle.expr_reader.proofs.fronts.+descend.Given as goal

abbrev pub decreases-descend : goal.decreases-descend
decreases-descend l = l.depth
