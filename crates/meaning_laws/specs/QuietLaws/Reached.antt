-- The nodes that a path reaches, step by step (XPath 2.0, 3.2).
use Rattle.std.specs.Prelude.{◌≡◌, List, [], ◌∷◌, filter, ◌⊎◌}
use Rattle.xt_types.specs.declared.axes.Axis.{Axis}
use Rattle.xt_types.specs.declared.node_tests.Test.{Test}
use Rattle.xt_tree.specs.Place.{Place}
use Rattle.xt_syntax.specs.declared.exprs.Expr.{Expr}
use Rattle.node_tests.specs.Tests.{passes_at}
use Rattle.node_axes.specs.Axes.{axis_nodes}
use Rattle.node_axes.specs.StepWalks.Nodes.{kept_by_all}
use Rattle.quiet_meaning.specs.Quietly.{quietly_of}
use Rattle.quiet_meaning.specs.Paths.{keeps, nodes_of_form}

abbrev pub IsAmong : Place → List Place → Type 0
IsAmong m [] = ⊥
IsAmong m (n ∷ rest) = (n ≡ m) ⊎ IsAmong m rest

-- the nodes on the axis that pass the test, in the order of the axis, as the predicates filter them in turn
abbrev pub filtered : Axis → Test → List Expr → Place → List Place
filtered along wanted tests n = kept_by_all (keeps tests) (filter (passes_at along wanted) (axis_nodes along n))

-- the path reaches the second node from the first
abbrev pub IsReached : Expr → Place → Place → Type 0
IsReached e n m = IsAmong m (nodes_of_form (quietly_of e) n)

-- the nodes that the path reaches, each once
abbrev pub reached : Expr → Place → List Place
reached e n = nodes_of_form (quietly_of e) n
