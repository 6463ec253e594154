use Rattle.assembly_laws.proofs.Spaces.{spaces_declared}
use Rattle.assembly_laws.proofs.spaces_are_declared.Goals as goal

pub returns : goal.returns
returns c = spaces_declared
