use Rattle.std.proofs.Common.{◌≡◌, drop}
use Rattle.printed_laws.specs.QueryRaws.Declarations.{params_can}
use Rattle.query_printer.proofs.printable_queries.declarations.can_params.Given as goal

abbrev pub invariant-loop-param : goal.invariant-loop-param
invariant-loop-param l =
    params_can l.prefixes (drop l.param-index l.params) ≡ params_can l.prefixes l.params
