use Rattle.expr_raws.proofs.ControlRaws.Types.{sequence_means}
use Rattle.expr_raws.proofs.control_raws.types_mean.Goals as goal

pub returns : goal.returns
returns c = sequence_means
