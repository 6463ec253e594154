use Rattle.std.proofs.Common.{true}
use Rattle.closed_parts.proofs.ClosedHeads.Heads.{literal_closed}
use Rattle.closed_parts.proofs.closed_heads.unbroken_literals_are_closed.Goals as goal

pub returns-clause-good : goal.returns-clause-good
returns-clause-good c = λ p name attributes b n a f.
    (literal_closed p (record { bound = b }) name attributes true n a f).good

pub returns-clause-stands : goal.returns-clause-stands
returns-clause-stands c = λ p name attributes b n a f.
    (literal_closed p (record { bound = b }) name attributes true n a f).stands
