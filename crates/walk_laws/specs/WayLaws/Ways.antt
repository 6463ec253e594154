-- Expressions that one walk along an axis answers (XPath 2.0, 3.2).
use Rattle.std.specs.Prelude.{ℕ, List, [], ◌∷◌, filter, Bool, true, false, not, ◌&&◌, ◌^◌, nat_lt}
use Rattle.std.specs.Prelude.{if◌then◌else◌, Option, Some, None, option_map, option_and_then}
use Rattle.std.specs.List.{list_all}
use Rattle.xt_types.specs.declared.axes.Axis.{Axis}
use Rattle.xt_types.specs.declared.axes.Axis.TheVariants as axis
use Rattle.xt_types.specs.declared.node_tests.Test.{Test}
use Rattle.xt_types.specs.declared.node_tests.Test.TheVariants as test
use Rattle.xt_tree.specs.Place.{Place}
use Rattle.xt_tree.specs.TreeView.{tree_size}
use Rattle.xdm_items.specs.declared.items.Item.{Item}
use Rattle.xdm_items.specs.declared.items.Item.TheVariants.{Node, Atom}
use Rattle.doc_set.specs.Sets.{is_document}
use Rattle.xt_syntax.specs.declared.exprs.Expr.{Expr}
use Rattle.xt_syntax.specs.declared.exprs.Arm.{Arm}
use Rattle.xt_syntax.specs.declared.exprs.Clause.{Clause}
use Rattle.xt_syntax.specs.declared.exprs.Order.{Order}
use Rattle.xt_syntax.specs.declared.exprs.Flwor.{Flwor as FlworOf}
use Rattle.xt_syntax.specs.declared.exprs.Bind.{Bind}
use Rattle.xt_syntax.specs.declared.exprs.NameSource.{NameSource}
use Rattle.xt_syntax.specs.declared.exprs.DirectAttr.{DirectAttr}
use Rattle.xt_syntax.specs.declared.exprs.Part.{Part}
use Rattle.xt_syntax.specs.declared.exprs.Clause.TheViews.{out-Expr}
use Rattle.xt_syntax.specs.declared.exprs.Clause.TheOpen.{Expr-F, Context, Root, Slash, Step}
use Rattle.xt_forms.specs.Quiet.{is_quiet_expr}
use Rattle.node_tests.specs.Tests.{passes_at}
use Rattle.node_axes.specs.Axes.{axis_nodes, is_reverse}
use Rattle.node_axes.specs.StepWalks.Nodes.{kept_by_all}
use Rattle.quiet_meaning.specs.Paths.{keeps}
use Rattle.quiet_eval.specs.QuietPlaces.Free.{is_place_free_expr}
use Rattle.expr_meaning.specs.SortMeaning.Sorted.{Placed}
use Rattle.expr_meaning.specs.Paths.{root_place}

abbrev pub Layer : Type 0
Layer = Expr-F Clause Expr NameSource Part Arm Bind DirectAttr FlworOf Order

-- from a node along an axis to the nodes that pass the test, of which the predicates keep some
pub record Way : Type 0 where
  pub from : Place
  pub along : Axis
  pub wanted : Test
  pub tests : List Expr

abbrev pub way : Axis → Test → List Expr → Place → Way
way along wanted tests n = record { from = n; along = along; wanted = wanted; tests = tests }

-- the nodes that it leads to, in the order of the axis
abbrev pub way_nodes : Way → List Place
way_nodes w = kept_by_all (keeps w.tests) (filter (passes_at w.along w.wanted) (axis_nodes w.along w.from))

abbrev pub can_be_counted : Place → Bool
can_be_counted n = nat_lt (tree_size n.tree) (2 ^ 63)

-- one that is walked in document order, and that fails nowhere
abbrev pub is_walked : Way → Bool
is_walked w = not (is_reverse w.along) && (list_all is_quiet_expr w.tests && can_be_counted w.from)

-- which expressions have one

-- the root of the node's tree, where it is a document
abbrev pub document_above : Place → Option Place
document_above n = if is_document n.tree then Some (root_place n) else None

-- `.` and `/`
abbrev pub begin_in : Layer → Place → Option Place
begin_in Context n = Some n
begin_in Root n = document_above n
begin_in x n = None

abbrev pub begin_of : Expr → Place → Option Place
begin_of e n = begin_in (out-Expr e) n

unfoldable pub is_child_axis : Axis → Bool
is_child_axis axis.Child = true
is_child_axis along = false

unfoldable pub is_deep_axis : Axis → Bool
is_deep_axis axis.DescendantOrSelf = true
is_deep_axis along = false

unfoldable pub is_any_node : Test → Bool
is_any_node test.Node = true
is_any_node wanted = false

abbrev pub has_none : List Expr → Bool
has_none [] = true
has_none (e ∷ more) = false

-- `descendant-or-self::node()`
abbrev pub is_all_below_in : Layer → Bool
is_all_below_in (Step along wanted tests) = is_deep_axis along && (is_any_node wanted && has_none tests)
is_all_below_in x = false

abbrev pub is_all_below : Expr → Bool
is_all_below e = is_all_below_in (out-Expr e)

-- whether the two last steps of `a//b[p]` are one along the descendants
abbrev pub is_deep : Axis → Expr → List Expr → Bool
is_deep along all tests = is_child_axis along && (is_all_below all && list_all is_place_free_expr tests)

-- a path with this last step: from `.`, `/`, `.//` or `//`
abbrev pub last_step_in : Layer → Axis → Test → List Expr → Place → Option Way
last_step_in (Slash a all) along wanted tests n =
    if is_deep along all tests then option_map (way axis.Descendant wanted tests) (begin_of a n)
    else None
last_step_in x along wanted tests n = option_map (way along wanted tests) (begin_in x n)

abbrev pub last_step : Expr → Axis → Test → List Expr → Place → Option Way
last_step a along wanted tests n = last_step_in (out-Expr a) along wanted tests n

abbrev pub path_in : Expr → Layer → Place → Option Way
path_in a (Step along wanted tests) n = last_step a along wanted tests n
path_in a x n = None

abbrev pub way_in : Layer → Place → Option Way
way_in (Step along wanted tests) n = Some (way along wanted tests n)
way_in (Slash a b) n = path_in a (out-Expr b) n
way_in x n = None

-- the way of an expression, where this is the context node
abbrev pub way_at : Expr → Place → Option Way
way_at e n = way_in (out-Expr e) n

-- where there is a focus

abbrev pub node_in : Item → Option Place
node_in (Node n) = Some n
node_in (Atom a) = None

abbrev pub context_node : Option (Placed Item) → Option Place
context_node None = None
context_node (Some f) = node_in f.value

abbrev pub way_of : Expr → Option (Placed Item) → Option Way
way_of e focus = option_and_then (way_at e) (context_node focus)

abbrev pub has_walk : Option Way → Bool
has_walk None = false
has_walk (Some w) = is_walked w
