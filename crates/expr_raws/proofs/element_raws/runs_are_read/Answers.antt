use Rattle.expr_raws.proofs.ElementRaws.Runs.{runs_read}
use Rattle.expr_raws.proofs.element_raws.runs_are_read.Goals as goal

pub returns : goal.returns
returns c = runs_read
