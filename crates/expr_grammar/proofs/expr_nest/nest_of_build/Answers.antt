use Rattle.expr_grammar.proofs.ExprNest.Built.{nest_of_build as law}
use Rattle.expr_grammar.proofs.expr_nest.nest_of_build.Goals as goal

pub returns : goal.returns
returns c = λ p vs. law p vs
