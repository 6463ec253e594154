use Rattle.assembly_laws.proofs.Parts.{parts_declared}
use Rattle.assembly_laws.proofs.parts_are_declared.Goals as goal

pub returns : goal.returns
returns c = parts_declared
