use Rattle.std.proofs.Common.{◌≡◌, ◌++◌, drop, map}
use Rattle.closed_queries.specs.declared.prolog_rules.declarations.Declaration.TheVariants as declaration
use Rattle.query_printer.proofs.printable_queries.declared.push_variables.Given as goal

abbrev pub invariant-loop-variable : goal.invariant-loop-variable
invariant-loop-variable l =
    l.declared ++ map (λ v. declaration.Variable v) (drop l.variable-index l.variables)
    ≡ l.initial.declared ++ map (λ v. declaration.Variable v) l.variables
