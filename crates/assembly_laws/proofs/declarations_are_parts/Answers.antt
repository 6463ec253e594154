use Rattle.assembly_laws.proofs.Lists.{parts_kept}
use Rattle.assembly_laws.proofs.declarations_are_parts.Goals as goal

pub returns : goal.returns
returns c = parts_kept
