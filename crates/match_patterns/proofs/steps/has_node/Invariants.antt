use Rattle.std.proofs.Common.{◌≡◌, drop}
use Rattle.std.specs.List.{list_any}
use Rattle.match_patterns.specs.Patterns.{is_same}
use Rattle.match_patterns.proofs.steps.has_node.Given as goal

abbrev pub invariant-loop-other : goal.invariant-loop-other
invariant-loop-other l = list_any (is_same l.node) (drop l.other-index l.nodes) ≡ list_any (is_same l.node) l.nodes
