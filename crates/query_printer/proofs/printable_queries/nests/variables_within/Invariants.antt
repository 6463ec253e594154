use Rattle.std.proofs.Common.{◌≡◌, drop, nat_le}
use Rattle.printed_laws.specs.PrintedReads.Nests.{variables_nest_of}
use Rattle.query_printer.proofs.printable_queries.nests.variables_within.Given as goal

abbrev pub invariant-loop-variable : goal.invariant-loop-variable
invariant-loop-variable l =
    nat_le (variables_nest_of (drop l.variable-index l.variables)) l.limit
    ≡ nat_le (variables_nest_of l.variables) l.limit
