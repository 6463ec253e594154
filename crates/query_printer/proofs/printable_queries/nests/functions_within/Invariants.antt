use Rattle.std.proofs.Common.{◌≡◌, drop, nat_le}
use Rattle.printed_laws.specs.PrintedReads.Nests.{functions_nest_of}
use Rattle.query_printer.proofs.printable_queries.nests.functions_within.Given as goal

abbrev pub invariant-loop-function : goal.invariant-loop-function
invariant-loop-function l =
    nat_le (functions_nest_of (drop l.function-index l.functions)) l.limit
    ≡ nat_le (functions_nest_of l.functions) l.limit
