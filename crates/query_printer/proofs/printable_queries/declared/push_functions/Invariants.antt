use Rattle.std.proofs.Common.{◌≡◌, ◌++◌, drop, map}
use Rattle.closed_queries.specs.declared.prolog_rules.declarations.Declaration.TheVariants as declaration
use Rattle.query_printer.proofs.printable_queries.declared.push_functions.Given as goal

abbrev pub invariant-loop-function : goal.invariant-loop-function
invariant-loop-function l =
    l.declared ++ map (λ f. declaration.Function f) (drop l.function-index l.functions)
    ≡ l.initial.declared ++ map (λ f. declaration.Function f) l.functions
