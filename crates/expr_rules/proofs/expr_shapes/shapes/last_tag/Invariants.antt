use Rattle.std.proofs.Common.{◌≡◌, length}
use Rattle.expr_rules.specs.ExprShapes.Shapes.{last_tag}
use Rattle.expr_rules.proofs.expr_shapes.shapes.last_tag.Given as goal

abbrev pub invariant-loop-left : goal.invariant-loop-left
invariant-loop-left l = last_tag l.left ≡ last_tag l.shapes

abbrev pub decreases-loop-left : goal.decreases-loop-left
decreases-loop-left l = length l.left
