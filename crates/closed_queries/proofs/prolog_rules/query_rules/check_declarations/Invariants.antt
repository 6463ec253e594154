use Rattle.std.proofs.Common.{◌≡◌, [], drop}
use Rattle.name_rules.specs.Faults.{first, earlier}
use Rattle.closed_queries.specs.PrologRules.Declarations.{declarations_broken}
use Rattle.closed_queries.proofs.prolog_rules.query_rules.check_declarations.Given as goal

abbrev pub invariant-loop-declaration : goal.invariant-loop-declaration
invariant-loop-declaration l =
    earlier l.fault (first (declarations_broken l.functions l.scope l.declared (drop l.declaration-index l.declarations) l.body))
    ≡ first (declarations_broken l.functions [] [] l.declarations l.body)
