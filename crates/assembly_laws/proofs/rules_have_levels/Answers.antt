use Rattle.assembly_laws.proofs.Levels as levels
use Rattle.assembly_laws.proofs.rules_have_levels.Goals as goal

pub returns : goal.returns
returns c = levels.rules_have_levels
