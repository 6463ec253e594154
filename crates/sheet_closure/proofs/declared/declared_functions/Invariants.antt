use Rattle.std.proofs.Common.{◌≡◌, [], drop}
use Rattle.sheet_closure.specs.Declared.{with_functions}
use Rattle.sheet_closure.proofs.declared.declared_functions.Given as goal

abbrev pub invariant-loop-function : goal.invariant-loop-function
invariant-loop-function l =
    with_functions l.declared (drop l.function-index l.functions) ≡ with_functions [] l.functions
