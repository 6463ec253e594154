use Rattle.closed_parts.proofs.ClosedHeads.Bounds.{call_closed}
use Rattle.closed_parts.proofs.closed_heads.unbroken_calls_are_closed.Goals as goal

pub returns-clause-good : goal.returns-clause-good
returns-clause-good c = λ p e attributes front b n f.
    (call_closed p (record { bound = b }) e attributes front n f).good

pub returns-clause-stands : goal.returns-clause-stands
returns-clause-stands c = λ p e attributes front b n f.
    (call_closed p (record { bound = b }) e attributes front n f).stands
