-- The nodes that steps and paths lead to (XPath 2.0, 3.2).
use Rattle.std.specs.Prelude.{ℕ, ◌+◌, List, [], ◌∷◌, ◌++◌, map, filter, length, Bool, if◌then◌else◌}
use Rattle.std.specs.List.{list_any}
use Rattle.xt_tree.specs.Place.{Place}
use Rattle.xt_tree.specs.Walk.{spots_of}
use Rattle.xt_types.specs.declared.axes.Axis.{Axis}
use Rattle.xt_types.specs.declared.node_tests.Test.{Test}
use Rattle.node_tests.specs.Tests.{passes_at}
use Rattle.node_axes.specs.Axes.{is_itself, spot_of, place_at, axis_nodes}

-- what a predicate looks at: a node, its position from 1, and how many nodes there are
pub record Focus : Type 0 where
  pub node : Place
  pub position : ℕ
  pub size : ℕ

abbrev pub Nodes : Type 0
Nodes = Place → List Place

-- those of the nodes, the first of which has this position, that a predicate keeps
unfoldable pub kept_from : (Focus → Bool) → ℕ → ℕ → List Place → List Place
kept_from holds size position [] = []
kept_from holds size position (n ∷ rest) =
    if holds (record { node = n; position = position; size = size }) then n ∷ kept_from holds size (position + 1) rest
    else kept_from holds size (position + 1) rest

unfoldable pub kept_by : (Focus → Bool) → List Place → List Place
kept_by holds nodes = kept_from holds (length nodes) 1 nodes

-- predicates filter in turn
unfoldable pub kept_by_all : List (Focus → Bool) → List Place → List Place
kept_by_all [] nodes = nodes
kept_by_all (holds ∷ more) nodes = kept_by_all more (kept_by holds nodes)

-- the nodes of the list, which are of the tree of n, each once and in document order
unfoldable pub in_tree_order : Place → List Place → List Place
in_tree_order n nodes = filter (λ m. list_any (λ x. is_itself (spot_of x) (spot_of m)) nodes) (map (place_at n) (spots_of n.tree))

-- the nodes of the axis that pass the test, of which predicates keep some; positions count along the axis
unfoldable pub step_nodes : Axis → Test → List (Focus → Bool) → Nodes
step_nodes axis test predicates n = in_tree_order n (kept_by_all predicates (filter (passes_at axis test) (axis_nodes axis n)))

unfoldable pub nodes_of_each : Nodes → List Place → List Place
nodes_of_each next [] = []
nodes_of_each next (n ∷ rest) = next n ++ nodes_of_each next rest

-- from each node of a path one step further
unfoldable pub slash_nodes : Nodes → Nodes → Nodes
slash_nodes path next n = in_tree_order n (nodes_of_each next (path n))
