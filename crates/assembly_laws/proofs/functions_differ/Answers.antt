use Rattle.assembly_laws.proofs.Functions.{functions_are_new}
use Rattle.assembly_laws.proofs.functions_differ.Goals as goal

pub returns : goal.returns
returns c = functions_are_new
