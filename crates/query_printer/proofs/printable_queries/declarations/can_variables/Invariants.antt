use Rattle.std.proofs.Common.{◌≡◌, drop, map}
use Rattle.printed_laws.specs.QueryRaws.Declarations.{variable}
use Rattle.printed_laws.specs.QueryRaws.Queries.{all_can}
use Rattle.query_printer.proofs.printable_queries.declarations.can_variables.Given as goal

abbrev pub invariant-loop-declared : goal.invariant-loop-declared
invariant-loop-declared l =
    all_can (map (λ v. variable l.prefixes v) (drop l.declared-index l.variables))
    ≡ all_can (map (λ v. variable l.prefixes v) l.variables)
