use Rattle.expr_laws.proofs.Ended.{always_ended}
use Rattle.expr_laws.proofs.laws.where_calls_end_all_ends.Goals as goal

pub returns : goal.returns
returns c = always_ended
