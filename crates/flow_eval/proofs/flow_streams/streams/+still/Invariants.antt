use Rattle.std.proofs.Common.{length}
use Rattle.flow_eval.proofs.flow_streams.streams.+still.Given as goal

abbrev pub decreases-are_still : goal.decreases-are_still
decreases-are_still l = length l.clauses.now
