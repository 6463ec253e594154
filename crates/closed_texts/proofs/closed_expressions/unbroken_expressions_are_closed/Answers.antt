use Rattle.closed_texts.proofs.ClosedExpressions.Expressions.{expr_closed}
use Rattle.closed_texts.proofs.closed_expressions.unbroken_expressions_are_closed.Goals as goal

pub returns-clause-good : goal.returns-clause-good
returns-clause-good c = λ p text u f. (expr_closed p text u f).good

pub returns-clause-stands : goal.returns-clause-stands
returns-clause-stands c = λ p text u f. (expr_closed p text u f).stands
