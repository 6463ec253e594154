use Rattle.std.proofs.Common.{◌≡◌, drop, map}
use Rattle.printed_laws.specs.QueryRaws.Prologs.{namespace}
use Rattle.printed_laws.specs.QueryRaws.Queries.{all_can}
use Rattle.query_printer.proofs.printable_queries.options.can_namespaces.Given as goal

abbrev pub invariant-loop-binding : goal.invariant-loop-binding
invariant-loop-binding l =
    all_can (map (λ b. namespace b) (drop l.binding-index l.bindings))
    ≡ all_can (map (λ b. namespace b) l.bindings)
