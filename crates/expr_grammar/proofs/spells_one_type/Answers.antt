use Rattle.expr_grammar.proofs.Run.{spells_one_type as law}
use Rattle.expr_grammar.proofs.spells_one_type.Goals as goal

pub returns : goal.returns
returns c = λ l ts v w a b. law a b
