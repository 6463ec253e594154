use Rattle.closed_texts.proofs.ClosedExpressions.Templates.{template_closed}
use Rattle.closed_texts.proofs.closed_expressions.unbroken_templates_are_closed.Goals as goal

pub returns-clause-good : goal.returns-clause-good
returns-clause-good c = λ p text u h f. (template_closed p u text h f).good

pub returns-clause-stands : goal.returns-clause-stands
returns-clause-stands c = λ p text u h f. (template_closed p u text h f).stands
