use Rattle.std.proofs.Common.{◌≡◌, ◌++◌, drop, map}
use Rattle.global_needs.specs.Rows.{no_row}
use Rattle.global_needs.proofs.rows.push_ends.Given as goal

abbrev pub invariant-loop-one : goal.invariant-loop-one
invariant-loop-one g l =
    l.graph.items ++ map no_row (drop l.one-index l.of) ≡ l.fn.graph.items ++ map no_row l.of
