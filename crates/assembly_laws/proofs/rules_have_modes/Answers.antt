use Rattle.assembly_laws.proofs.Modes as modes
use Rattle.assembly_laws.proofs.rules_have_modes.Goals as goal

pub returns : goal.returns
returns c = modes.rules_have_modes
