use Rattle.std.proofs.Common.{◌≡◌, drop, []}
use Rattle.sheet_rules.specs.Names.{with_functions}
use Rattle.sheet_rules.proofs.names.functions_of.Given as goal

abbrev pub invariant-loop-one : goal.invariant-loop-one
invariant-loop-one g l =
    with_functions l.functions (drop l.one-index l.declarations) ≡ with_functions [] l.declarations
