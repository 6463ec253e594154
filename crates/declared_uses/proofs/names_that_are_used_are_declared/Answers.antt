use Rattle.declared_uses.proofs.Uses.{names_kept}
use Rattle.declared_uses.proofs.names_that_are_used_are_declared.Goals as goal

pub returns : goal.returns
returns c = names_kept
