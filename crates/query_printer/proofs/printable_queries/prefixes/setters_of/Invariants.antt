use Rattle.std.proofs.Common.{◌≡◌, ◌++◌, drop, map}
use Rattle.closed_queries.specs.declared.prolog_rules.setters.Setter.TheVariants as setter
use Rattle.query_printer.proofs.printable_queries.prefixes.setters_of.Given as goal

abbrev pub invariant-loop-binding : goal.invariant-loop-binding
invariant-loop-binding l =
    l.setters ++ map (λ b. setter.Namespace b) (drop l.binding-index l.bindings)
    ≡ map (λ b. setter.Namespace b) l.bindings
