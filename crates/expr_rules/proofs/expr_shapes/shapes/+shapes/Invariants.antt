use Rattle.std.proofs.Common.{◌≡◌, ◌++◌, drop, map}
use Rattle.std.specs.List.{list_all}
use Rattle.expr_rules.specs.ExprShapes.Shapes.{shape_of, is_good}
use Rattle.expr_rules.proofs.expr_shapes.shapes.+shapes.Given as goal

abbrev pub invariant-shapes_of-loop-raw : goal.invariant-shapes_of-loop-raw
invariant-shapes_of-loop-raw l = l.shapes.items ++ map shape_of (drop l.raw-index l.raws) ≡ map shape_of l.raws

abbrev pub invariant-are_shaped-loop-raw : goal.invariant-are_shaped-loop-raw
invariant-are_shaped-loop-raw l =
    list_all is_good (map shape_of (drop l.raw-index l.raws)) ≡ list_all is_good (map shape_of l.raws)
