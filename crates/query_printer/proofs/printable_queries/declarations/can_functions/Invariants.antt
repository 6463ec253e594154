use Rattle.std.proofs.Common.{◌≡◌, drop, map}
use Rattle.printed_laws.specs.QueryRaws.Declarations.{function}
use Rattle.printed_laws.specs.QueryRaws.Queries.{all_can}
use Rattle.query_printer.proofs.printable_queries.declarations.can_functions.Given as goal

abbrev pub invariant-loop-declared : goal.invariant-loop-declared
invariant-loop-declared l =
    all_can (map (λ f. function l.prefixes f) (drop l.declared-index l.functions))
    ≡ all_can (map (λ f. function l.prefixes f) l.functions)
