use Rattle.assembly_laws.proofs.Rules.{rules_have}
use Rattle.assembly_laws.proofs.rules_have_templates.Goals as goal

pub returns : goal.returns
returns c = rules_have
