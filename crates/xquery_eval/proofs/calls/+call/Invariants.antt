use Rattle.std.proofs.Common.{◌+◌, ◌*◌}
use Rattle.xquery_eval.proofs.calls.+call.Given as goal

-- the calls left, and what stands above a call within one of them
abbrev pub decreases-call_function : goal.decreases-call_function
decreases-call_function l = 2 * l.left

abbrev pub decreases-calls : goal.decreases-calls
decreases-calls l = 2 * l.fewer + 1
