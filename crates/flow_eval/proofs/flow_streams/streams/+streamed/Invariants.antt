use Rattle.std.proofs.Common.{length}
use Rattle.flow_eval.proofs.flow_streams.streams.+streamed.Given as goal

abbrev pub decreases-are_streamed : goal.decreases-are_streamed
decreases-are_streamed l = length l.clauses.now
