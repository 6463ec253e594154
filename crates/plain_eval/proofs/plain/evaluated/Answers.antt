use Rattle.std.proofs.Common.{rules}
use Rattle.expr_eval.specs.Serves.{Serves}
use Rattle.plain_eval.proofs.plain.evaluated.Goals as goal

pub eval_late-requires-clause-serves : goal.eval_late-requires-clause-serves
unfolding Serves
eval_late-requires-clause-serves c = search rules
