-- Comparisons of nodes, and lists of nodes as sets (XPath 2.0, 3.3.3 and 3.5.3).
use Rattle.std.specs.Prelude.{List, ◌++◌, filter, Bool, true, false, not}
use Rattle.std.specs.Prelude.{if◌then◌else◌, Option, Some, None, Result, Ok, Err}
use Rattle.std.specs.declared.cmp.Ordering.{Ordering}
use Rattle.std.specs.Ordering.{is_eq, is_lt}
use Rattle.std.specs.List.{list_any, list_all}
use Rattle.xt_names.specs.declared.codes.Code.{Code}
use Rattle.xt_names.specs.declared.codes.Code.TheVariants.{Dynamic}
use Rattle.xt_names.specs.declared.codes.DynamicCode.TheVariants.{XTOR0001}
use Rattle.xt_atoms.specs.Casts.{wrong_type}
use Rattle.xt_tree.specs.Place.{Place, order_of}
use Rattle.xdm_items.specs.declared.items.Item.{Item}
use Rattle.xdm_items.specs.declared.items.Item.TheVariants.{Node, Atom}
use Rattle.xdm_items.specs.FunctionArguments.Answers.{of_truth}
use Rattle.xdm_items.specs.FunctionArguments.Arguments.{and_then}
use Rattle.lazy_seq.specs.Orders.{in_document_order}
use Rattle.operator_values.specs.Operands.{optional_node, of_both}

abbrev pub is_equal : Option Ordering → Bool
is_equal None = false
is_equal (Some order) = is_eq order

-- the same node of the same tree: neither of the two comes before the other
unfoldable pub same_node : Place → Place → Bool
same_node n m = is_equal (order_of n m)

abbrev pub of_nodes :
    (Place → Place → Result (List Item) Code) → List Item → List Item → Result (List Item) Code
of_nodes value xs ys =
    and_then (optional_node xs) (λ n. and_then (optional_node ys) (of_both value n))

-- `a is b`
unfoldable pub is_value : List Item → List Item → Result (List Item) Code
is_value xs ys = of_nodes (λ n m. Ok (of_truth (same_node n m))) xs ys

-- nodes of two trees have no order
abbrev pub is_less : Option Ordering → Result (List Item) Code
is_less None = Err (Dynamic XTOR0001)
is_less (Some order) = Ok (of_truth (is_lt order))

unfoldable pub precedes : Place → Place → Result (List Item) Code
precedes n m = is_less (order_of n m)

-- `a << b` and `a >> b`
unfoldable pub before_value : List Item → List Item → Result (List Item) Code
before_value xs ys = of_nodes precedes xs ys

unfoldable pub after_value : List Item → List Item → Result (List Item) Code
after_value xs ys = of_nodes (λ n m. precedes m n) xs ys

unfoldable pub is_node : Item → Bool
is_node (Node n) = true
is_node (Atom a) = false

-- the nodes, where all items are nodes
abbrev pub only_nodes : List Item → Result (List Item) Code
only_nodes xs = if list_all is_node xs then Ok xs else Err wrong_type

unfoldable pub is_same_item : Item → Item → Bool
is_same_item (Node n) (Node m) = same_node n m
is_same_item (Node n) (Atom b) = false
is_same_item (Atom a) y = false

abbrev pub is_among : List Item → Item → Bool
is_among ys x = list_any (is_same_item x) ys

abbrev pub of_sets :
    (List Item → List Item → List Item) → List Item → List Item → Result (List Item) Code
of_sets value xs ys =
    and_then (only_nodes xs) (λ ns. and_then (only_nodes ys)
    (λ ms. Ok (in_document_order (value ns ms))))

-- the nodes of both, of the first that are in the second, of the first that are not; each once and
-- in document order
unfoldable pub union_value : List Item → List Item → Result (List Item) Code
union_value xs ys = of_sets (λ ns ms. ns ++ ms) xs ys

unfoldable pub intersect_value : List Item → List Item → Result (List Item) Code
intersect_value xs ys = of_sets (λ ns ms. filter (is_among ms) ns) xs ys

unfoldable pub except_value : List Item → List Item → Result (List Item) Code
except_value xs ys = of_sets (λ ns ms. filter (λ x. not (is_among ms x)) ns) xs ys
