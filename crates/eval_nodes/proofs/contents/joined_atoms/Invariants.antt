use Rattle.std.proofs.Common.{◌≡◌, ◌++◌, drop}
use Rattle.std.specs.Prelude.{None}
use Rattle.expr_meaning.specs.Making.{joined_behind}
use Rattle.eval_nodes.proofs.contents.joined_atoms.Given as goal

abbrev pub invariant-loop-item : goal.invariant-loop-item
invariant-loop-item l =
    l.made ++ joined_behind l.run (drop l.item-index l.item-items) ≡ joined_behind None l.items
