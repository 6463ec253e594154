use Rattle.transform_laws.proofs.Depth.{more_calls}
use Rattle.transform_laws.proofs.more_calls_change_nothing_else.Goals as goal

pub returns : goal.returns
returns c = more_calls
