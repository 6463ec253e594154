-- Paths, steps and predicates (XPath 2.0, 3.2 and 3.3.2).
use Rattle.std.specs.Prelude.{ℕ, List, [], ◌∷◌, map, filter, Bool, true, false, if◌then◌else◌}
use Rattle.std.specs.Prelude.{None, Result, Ok, Err, pos}
use Rattle.std.specs.Ordering.{int_eq}
use Rattle.std.specs.List.{list_all}
use Rattle.xt_names.specs.declared.codes.Code.{Code}
use Rattle.xt_names.specs.declared.codes.Code.TheVariants.{Dynamic}
use Rattle.xt_names.specs.declared.codes.DynamicCode.TheVariants.{XPDY0050, XPTY0018, XPTY0019}
use Rattle.xt_names.specs.declared.codes.DynamicCode.TheVariants.{XPTY0020}
use Rattle.xt_types.specs.declared.axes.Axis.{Axis}
use Rattle.xt_types.specs.declared.node_tests.Test.{Test}
use Rattle.xt_tree.specs.Place.{Place}
use Rattle.doc_set.specs.Sets.{is_document}
use Rattle.xdm_items.specs.NodeTests.Tests.{passes_at}
use Rattle.operator_values.specs.NodeAxes.Axes.{axis_nodes}
use Rattle.xt_atoms.specs.declared.atoms.Atom.TheVariants as atom
use Rattle.xdm_items.specs.declared.items.Item.{Item}
use Rattle.xdm_items.specs.declared.items.Item.TheVariants.{Node, Atom}
use Rattle.xdm_items.specs.Truth.{truth_of}
use Rattle.xdm_items.specs.FunctionArguments.Arguments.{and_then as result_then}
use Rattle.operator_values.specs.LazySeq.Orders.{in_document_order}
use Rattle.operator_values.specs.Nodes.{is_node}
use Rattle.expr_meaning.specs.Outcomes.Outcome.{Outcome, Ends, and_then, step_outcome, for_each}
use Rattle.expr_meaning.specs.SortMeaning.Sorted.{Placed, places}
use Rattle.expr_meaning.specs.Env.{Env, Meaning, at_focus}
use Rattle.expr_meaning.specs.Values.{of_focus}

-- the root of the node's tree
abbrev pub root_place : Place → Place
root_place n = record { number = n.number; tree = n.tree; path = []; attribute = None }

abbrev pub document_root : Item → Result (List Item) Code
document_root (Atom a) = Err (Dynamic XPTY0020)
document_root (Node n) =
    if is_document n.tree then Ok (Node (root_place n) ∷ []) else Err (Dynamic XPDY0050)

-- `/`
abbrev pub root_of : Meaning
root_of env k = step_outcome (of_focus (λ f. document_root f.value) env.focus) k

-- an integer alone keeps the item at that position, and any other list by its truth value
abbrev pub kept_at : ℕ → List Item → Result Bool Code
kept_at position (Atom (atom.Int n) ∷ []) = Ok (int_eq (pos position) n)
kept_at position xs = truth_of xs

abbrev pub alone_if : Item → Bool → ℕ → Outcome (List Item)
alone_if x true k = Ends (x ∷ []) k
alone_if x false k = Ends [] k

abbrev pub kept_item : Meaning → Env → Placed Item → ℕ → Outcome (List Item)
kept_item test env f k =
    and_then (test (at_focus env f) k) (λ ys j.
    and_then (step_outcome (kept_at f.place ys) j) (alone_if f.value))

-- a predicate: each item with its position in the list
abbrev pub kept : Meaning → Env → List Item → ℕ → Outcome (List Item)
kept test env xs k = and_then (step_outcome (places xs) k) (for_each (kept_item test env))

-- predicates filter in turn
abbrev pub kept_in_turn : List Meaning → Env → List Item → ℕ → Outcome (List Item)
kept_in_turn [] env xs k = Ends xs k
kept_in_turn (test ∷ tests) env xs k = and_then (kept test env xs k) (kept_in_turn tests env)

-- `a[p]..`
abbrev pub filter_of : Meaning → List Meaning → Meaning
filter_of of tests env k = and_then (of env k) (kept_in_turn tests env)

-- the nodes of the axis that pass the test, in the order of the axis
abbrev pub step_items : Axis → Test → Item → Result (List Item) Code
step_items axis wanted (Atom a) = Err (Dynamic XPTY0020)
step_items axis wanted (Node n) =
    Ok (map Node (filter (passes_at axis wanted) (axis_nodes axis n)))

-- `axis::test[p]..`
abbrev pub step_of : Axis → Test → List Meaning → Meaning
step_of axis test tests env k =
    and_then (step_outcome (of_focus (λ f. step_items axis test f.value) env.focus) k) (λ xs j.
    and_then (kept_in_turn tests env xs j) (λ ys i. Ends (in_document_order ys) i))

-- the left side of `/`
abbrev pub path_nodes : List Item → Result (List Item) Code
path_nodes xs = if list_all is_node xs then Ok xs else Err (Dynamic XPTY0019)

abbrev pub is_atom : Item → Bool
is_atom (Node n) = false
is_atom (Atom a) = true

-- nodes in order without doubles, atoms as they come, and no mixture
abbrev pub path_value : List Item → Result (List Item) Code
path_value xs =
    if list_all is_node xs then Ok (in_document_order xs)
    else if list_all is_atom xs then Ok xs
    else Err (Dynamic XPTY0018)

abbrev pub path_places : List Item → Result (List (Placed Item)) Code
path_places xs = result_then (path_nodes xs) places

-- `a/b`
abbrev pub slash_of : Meaning → Meaning → Meaning
slash_of a b env k =
    and_then (a env k) (λ xs j.
    and_then (step_outcome (path_places xs) j) (λ fs i.
    and_then (for_each (λ f. b (at_focus env f)) fs i) (λ ys h. step_outcome (path_value ys) h)))
