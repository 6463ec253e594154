use Rattle.translation.proofs.Variables.{variables_are}
use Rattle.translation.proofs.laws.variables_are_the_globals.Goals as goal

pub returns : goal.returns
returns c = variables_are
