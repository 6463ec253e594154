use Rattle.expr_grammar.proofs.ExprNest.Keeps.{parts_nest_no_deeper as law}
use Rattle.expr_grammar.proofs.expr_nest.parts_nest_no_deeper.Goals as goal

pub returns : goal.returns
returns c = λ m l ts p vs ss fs w e. law m l ts p vs ss fs w e
