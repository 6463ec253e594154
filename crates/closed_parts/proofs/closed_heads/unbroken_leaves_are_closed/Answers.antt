use Rattle.closed_parts.proofs.ClosedHeads.Bounds.{selected_closed}
use Rattle.closed_parts.proofs.ClosedHeads.Nodes.{characters_text}
use Rattle.closed_parts.proofs.closed_heads.unbroken_leaves_are_closed.Goals as goal

pub returns-clause-good : goal.returns-clause-good
returns-clause-good c = λ p e attributes kids b f.
    (selected_closed p (record { bound = b }) e attributes kids f).good

pub returns-clause-stands : goal.returns-clause-stands
returns-clause-stands c = λ p e attributes kids b f.
    (selected_closed p (record { bound = b }) e attributes kids f).stands

pub returns-clause-texts : goal.returns-clause-texts
returns-clause-texts c = characters_text
