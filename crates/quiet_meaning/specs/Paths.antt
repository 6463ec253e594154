-- The nodes that a path in a quiet predicate leads to.
use Rattle.std.specs.Prelude.{ℕ, List, [], map, length, Bool, true, false, Option, Some, None}
use Rattle.std.specs.List.{list_all}
use Rattle.xt_syntax.specs.declared.exprs.Expr.{Expr}
use Rattle.node_axes.specs.StepWalks.Nodes.{Focus, Nodes}
use Rattle.quiet_meaning.specs.Quietly.{Quietly, position, last, count_of, attribute, step, path, quietly_of, holds_at, is_pattern_form}

unfoldable pub is_path_form : Quietly → Bool
is_path_form (attribute g) = true
is_path_form (step g) = true
is_path_form (path g) = true
is_path_form q = false

unfoldable pub nodes_of_form : Quietly → Nodes
nodes_of_form (attribute g) = g
nodes_of_form (step g) = g
nodes_of_form (path g) = g
nodes_of_form q = λ n. []

-- what the predicates of a step keep
abbrev pub keeps : List Expr → List (Focus → Bool)
keeps tests = map holds_at (map quietly_of tests)

-- each of them has a meaning as a predicate
abbrev pub are_allowed : List Expr → Bool
are_allowed tests = list_all is_pattern_form (map quietly_of tests)

-- the number that is compared with an integer, if it is one
unfoldable pub number_in : Quietly → Focus → Option ℕ
number_in position f = Some f.position
number_in last f = Some f.size
number_in (count_of g) f = Some (length (g f.node))
number_in q f = None
