use Rattle.std.proofs.Common.{◌≡◌, drop}
use Rattle.quiet_meaning.specs.Values.{some_compares}
use Rattle.quiet_eval.proofs.values.some_compares.Given as goal

abbrev pub invariant-loop-node : goal.invariant-loop-node
invariant-loop-node l = some_compares l.op l.b (drop l.node-index l.nodes) ≡ some_compares l.op l.b l.nodes
