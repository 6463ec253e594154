-- What a contract sees of a cursor, and which nodes are still to come.
use Rattle.std.specs.Prelude.{ℕ, List, [], map, filter, Bool, true, false, ◌&&◌, if◌then◌else◌, Option, Some, None}
use Rattle.xt_tree.specs.Place.{Place}
use Rattle.xt_tree.specs.Walk.{Spot, spots_of}
use Rattle.xt_types.specs.declared.axes.Axis.{Axis}
use Rattle.xt_types.specs.declared.node_tests.Test.{Test}
use Rattle.node_tests.specs.Tests.{passes_at}
use Rattle.node_axes.specs.Axes.{axis_nodes, in_axis_order, on_axis, is_before, is_reverse, spot_of, place_at}

-- the node whose axis is walked, the axis, the test, whether a first step was taken, and the present node: none before the
-- first step and after the end
pub record Course : Type 0 where
  pub start : Place
  pub axis : Axis
  pub test : Test
  pub begun : Bool
  pub present : Option Place

-- whether the second comes later on the axis than the first
unfoldable pub is_further : Axis → Spot → Spot → Bool
is_further axis s t = if is_reverse axis then is_before t s else is_before s t

-- the nodes of the axis that come after the node
unfoldable pub nodes_after : Axis → Place → Place → List Place
nodes_after axis n m =
    map (place_at n) (in_axis_order axis (filter (λ s. on_axis axis (spot_of n) s && is_further axis (spot_of m) s) (spots_of n.tree)))

unfoldable pub come_after : Axis → Place → Bool → Option Place → List Place
come_after axis n false present = axis_nodes axis n
come_after axis n true None = []
come_after axis n true (Some m) = nodes_after axis n m

-- the nodes of the axis that the cursor has not reached yet, in the order of the axis
unfoldable pub to_come : Course → List Place
to_come c = come_after c.axis c.start c.begun c.present

unfoldable pub is_at_hit : Axis → Test → Option Place → Bool
is_at_hit axis wanted None = false
is_at_hit axis wanted (Some m) = passes_at axis wanted m

-- the node where a walk stands, if it stands on one
unfoldable pub present_at : Bool → Place → List ℕ → Option ℕ → Option Place
present_at false n path attribute = None
present_at true n path attribute = Some (place_at n (path, attribute))
