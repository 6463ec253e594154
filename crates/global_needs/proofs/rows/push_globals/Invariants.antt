use Rattle.std.proofs.Common.{◌≡◌, ◌++◌, drop, map}
use Rattle.global_needs.specs.Rows.{global_row}
use Rattle.global_needs.proofs.rows.push_globals.Given as goal

abbrev pub invariant-loop-global : goal.invariant-loop-global
invariant-loop-global l =
    l.graph.items ++ map (global_row l.shape) (drop l.global-index l.globals) ≡ l.fn.graph.items ++ map (global_row l.shape) l.globals
