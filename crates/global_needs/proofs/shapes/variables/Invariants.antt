use Rattle.std.proofs.Common.{◌≡◌, drop, map}
use Rattle.global_needs.specs.Shapes.{with_all, variable_signature, variables_of}
use Rattle.global_needs.proofs.shapes.variables.Given as goal

abbrev pub invariant-loop-global : goal.invariant-loop-global
invariant-loop-global l =
    with_all l.table (map variable_signature (drop l.global-index l.globals))
    ≡ variables_of l.globals
