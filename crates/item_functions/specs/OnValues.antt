-- The functions on numbers, truth values and nodes (XQuery 1.0 and XPath 2.0 Functions and Operators,
-- 6.4.1, 9.3.1, 14.9, 15.1.1 and 15.4) on arguments of any kind, which are converted in turn to the
-- types of the parameters.
use Rattle.std.specs.Prelude.{ℤ, not, List, [], ◌∷◌, Option, Some, None, option_map, Ok}
use Rattle.xt_names.specs.declared.kinds.CompareOp.{CompareOp}
use Rattle.xt_atoms.specs.declared.atoms.Atom.{Atom as AtomValue}
use Rattle.xdm_items.specs.Truth.{truth_of}
use Rattle.xdm_items.specs.declared.items.Item.{Item}
use Rattle.xdm_items.specs.FunctionArguments.Answers.{of_truth}
use Rattle.xdm_items.specs.FunctionArguments.Arguments.{and_then, atom_arguments, optional_atom_argument, optional_integer_argument, optional_node_argument}
use Rattle.item_functions.specs.NumberFunctions.Sums.{sum_of as integer_sum, absolute}
use Rattle.item_functions.specs.NumberFunctions.Extremes.{extreme}
use Rattle.item_functions.specs.NodeFunctions.Roots.{root_of as root_place}
use Rattle.item_functions.specs.Outcomes.{Outcome, as_integer, as_truth, of_optional_atom, of_optional_node}

-- of no item the second argument is the sum
abbrev pub sum_or : List Item → Option AtomValue → Outcome
sum_or [] zero = Ok (of_optional_atom zero)
sum_or (item ∷ items) zero = as_integer (integer_sum (item ∷ items))

unfoldable pub sum_of : List Item → Outcome
sum_of items = and_then (atom_arguments items) (λ atoms. as_integer (integer_sum atoms))

unfoldable pub sum_with_of : List Item → List Item → Outcome
sum_with_of items zero = and_then (atom_arguments items) (λ atoms. and_then (optional_atom_argument zero) (λ z. sum_or atoms z))

-- with `Gt` the greatest atom, with `Lt` the least
abbrev pub extreme_atom : CompareOp → List Item → Outcome
extreme_atom op atoms = and_then (extreme op atoms) (λ best. Ok (of_optional_atom best))

unfoldable pub extreme_of : CompareOp → List Item → Outcome
extreme_of op items = and_then (atom_arguments items) (extreme_atom op)

abbrev pub absolute_of : Option ℤ → Outcome
absolute_of None = Ok []
absolute_of (Some number) = as_integer (absolute number)

unfoldable pub abs_of : List Item → Outcome
abs_of number = and_then (optional_integer_argument number) absolute_of

unfoldable pub boolean_of : List Item → Outcome
boolean_of items = as_truth (truth_of items)

unfoldable pub not_of : List Item → Outcome
not_of items = and_then (truth_of items) (λ t. Ok (of_truth (not t)))

unfoldable pub root_of : List Item → Outcome
root_of node = and_then (optional_node_argument node) (λ n. Ok (of_optional_node (option_map root_place n)))
