use Rattle.expr_grammar.proofs.ExprNest.Within.{within_of_build as law, within-less}
use Rattle.expr_grammar.proofs.expr_nest.within_of_build.Goals as goal

pub returns-clause-value : goal.returns-clause-value
returns-clause-value c = λ p vs. law p vs

pub returns-clause-less : goal.returns-clause-less
returns-clause-less c = λ v. within-less v
