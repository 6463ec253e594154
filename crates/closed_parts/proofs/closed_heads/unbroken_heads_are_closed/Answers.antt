use Rattle.closed_parts.proofs.ClosedHeads.Heads.{head_closed}
use Rattle.closed_parts.proofs.closed_heads.unbroken_heads_are_closed.Goals as goal

pub returns-clause-good : goal.returns-clause-good
returns-clause-good c = λ p e attributes front content b a n f.
    (head_closed p (record { bound = b }) attributes a e front content n f).good

pub returns-clause-stands : goal.returns-clause-stands
returns-clause-stands c = λ p e attributes front content b a n f.
    (head_closed p (record { bound = b }) attributes a e front content n f).stands

pub returns-clause-one : goal.returns-clause-one
returns-clause-one c = λ p e attributes front content b a n f.
    (head_closed p (record { bound = b }) attributes a e front content n f).one
