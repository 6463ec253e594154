-- The moves of a walk along an axis.
use Rattle.std.specs.Prelude.{List, [], Bool, true, false, ◌∷◌, ◌++◌, if◌then◌else◌, Option, Some, None}
use Rattle.xt_tree.specs.Place.{Place}
use Rattle.xt_types.specs.declared.axes.Axis.{Axis}
use Rattle.xt_types.specs.declared.node_tests.Test.{Test}
use Rattle.xdm_items.specs.NodeTests.Tests.{passes_at}
use Rattle.node_axes.specs.Course.{Course, to_come}
use Rattle.xdm_items.specs.declared.items.Item.TheVariants.{Node}
use Rattle.node_walks.specs.Moves.{Moves}
use Rattle.node_walks.specs.declared.axis_walks.Stand.{Stand}
use Rattle.node_walks.specs.declared.axis_walks.Stand.TheVariants.{Before, Ahead, Ended}

-- a step to each of the nodes, which is given where it passes the test, and one step past the end
unfoldable pub moves_along : Axis → Test → List Place → Moves
moves_along axis wanted [] = None ∷ []
moves_along axis wanted (n ∷ rest) =
    if passes_at axis wanted n then None ∷ Some (Node n) ∷ moves_along axis wanted rest
    else None ∷ moves_along axis wanted rest

-- along the nodes that a cursor has not reached yet
unfoldable pub moves_to_come : Course → Moves
moves_to_come c = moves_along c.axis c.test (to_come c)

unfoldable pub present_moves : Option Place → Moves
present_moves None = []
present_moves (Some n) = Some (Node n) ∷ []

unfoldable pub walk_moves : Stand → Course → Moves
walk_moves Before c = moves_to_come c
walk_moves Ahead c = present_moves c.present ++ moves_to_come c
walk_moves Ended c = []

abbrev pub is_ahead : Stand → Bool
is_ahead Before = false
is_ahead Ahead = true
is_ahead Ended = false
