use Rattle.closed_texts.proofs.NamedKeys.Closed.{named_closed}
use Rattle.closed_texts.proofs.named_keys.named_expressions_are_closed.Goals as goal

pub returns-clause-good : goal.returns-clause-good
returns-clause-good c = λ s grouped ts v w u h d n e b.
    (named_closed s grouped ts v w u h d n e b).good

pub returns-clause-stands : goal.returns-clause-stands
returns-clause-stands c = λ s grouped ts v w u h d n e b.
    (named_closed s grouped ts v w u h d n e b).stands
