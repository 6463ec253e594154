use Rattle.std.proofs.Common.{◌≡◌, drop, map}
use Rattle.global_needs.specs.Shapes.{with_all, function_signature, called_of}
use Rattle.global_needs.proofs.shapes.called.Given as goal

abbrev pub invariant-loop-function : goal.invariant-loop-function
invariant-loop-function l =
    with_all l.table (map function_signature (drop l.function-index l.functions))
    ≡ called_of l.functions
