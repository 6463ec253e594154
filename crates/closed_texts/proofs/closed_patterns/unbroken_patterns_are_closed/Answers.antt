use Rattle.closed_texts.proofs.ClosedPatterns.Texts.{patterns_closed}
use Rattle.closed_texts.proofs.closed_patterns.unbroken_patterns_are_closed.Goals as goal

pub returns-clause-good : goal.returns-clause-good
returns-clause-good c = λ p text u f. (patterns_closed p text u f).good

pub returns-clause-stands : goal.returns-clause-stands
returns-clause-stands c = λ p text u f. (patterns_closed p text u f).stands
