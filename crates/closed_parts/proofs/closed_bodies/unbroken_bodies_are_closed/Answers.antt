use Rattle.closed_parts.proofs.ClosedBodies.Walk.{body_made}
use Rattle.closed_parts.proofs.closed_bodies.unbroken_bodies_are_closed.Goals as goal

pub returns-clause-good : goal.returns-clause-good
returns-clause-good c = λ room p nodes b h f.
    (body_made room p (record { bound = b }) nodes h f).good

pub returns-clause-stands : goal.returns-clause-stands
returns-clause-stands c = λ room p nodes b h f.
    (body_made room p (record { bound = b }) nodes h f).stands

pub returns-clause-nests : goal.returns-clause-nests
returns-clause-nests c = λ room p nodes b h f.
    (body_made room p (record { bound = b }) nodes h f).nests
