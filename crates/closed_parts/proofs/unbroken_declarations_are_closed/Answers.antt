use Rattle.closed_parts.proofs.Tops.{top_closed, top_spaces}
use Rattle.closed_parts.proofs.unbroken_declarations_are_closed.Goals as goal

pub returns-clause-parts : goal.returns-clause-parts
returns-clause-parts c = λ p n b o h f.
    top_closed p (record { good = record { bound = b }; outside = o }) n h f

pub returns-clause-spaces : goal.returns-clause-spaces
returns-clause-spaces c = λ p n b o h f.
    top_spaces p (record { good = record { bound = b }; outside = o }) n h f
