use Rattle.std.proofs.Common.{◌≡◌, ◌++◌, drop, map}
use Rattle.global_needs.specs.Rows.{function_row}
use Rattle.global_needs.proofs.rows.push_functions.Given as goal

abbrev pub invariant-loop-function : goal.invariant-loop-function
invariant-loop-function l =
    l.graph.items ++ map (function_row l.shape) (drop l.function-index l.functions) ≡ l.fn.graph.items ++ map (function_row l.shape) l.functions
