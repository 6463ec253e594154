use Rattle.std.proofs.Common.{◌≡◌, [], drop}
use Rattle.sheet_closure.specs.Declared.{are_new_functions}
use Rattle.sheet_closure.proofs.declared.are_new_functions.Given as goal

abbrev pub invariant-loop-function : goal.invariant-loop-function
invariant-loop-function l =
    are_new_functions l.declared (drop l.function-index l.functions)
    ≡ are_new_functions [] l.functions
