use Rattle.closed_parts.proofs.ClosedHeads.Bounds.{bound_closed}
use Rattle.closed_parts.proofs.closed_heads.unbroken_bounds_are_closed.Goals as goal

pub returns-clause-good : goal.returns-clause-good
returns-clause-good c = λ p e attributes content b f.
    (bound_closed p (record { bound = b }) e attributes content f).good

pub returns-clause-stands : goal.returns-clause-stands
returns-clause-stands c = λ p e attributes content b f.
    (bound_closed p (record { bound = b }) e attributes content f).stands

pub returns-clause-one : goal.returns-clause-one
returns-clause-one c = λ p e attributes content b f.
    (bound_closed p (record { bound = b }) e attributes content f).one

pub returns-clause-required : goal.returns-clause-required
returns-clause-required c = λ p e attributes content b f.
    (bound_closed p (record { bound = b }) e attributes content f).required
