-- The functions on sequences (XQuery 1.0 and XPath 2.0 Functions and Operators, 15) on arguments of
-- any kind, which are converted in turn to the types of the parameters.
use Rattle.std.specs.Prelude.{List, Ok}
use Rattle.xdm_items.specs.declared.items.Item.{Item}
use Rattle.xdm_items.specs.FunctionArguments.Answers.{of_truth}
use Rattle.xdm_items.specs.FunctionArguments.Arguments.{and_then, atom_argument, atom_arguments, integer_argument}
use Rattle.item_functions.specs.SequenceFunctions.Cardinality.{counted, has_no_item, has_item}
use Rattle.item_functions.specs.SequenceFunctions.Positions.{from_start, from_start_so_many, removed, inserted_before, index_of}
use Rattle.item_functions.specs.SequenceFunctions.Values.{distinct_values}
use Rattle.item_functions.specs.NodeFunctions.Deep.{deep_equal}
use Rattle.item_functions.specs.Outcomes.{Outcome, as_integer}

unfoldable pub count_of : List Item → Outcome
count_of items = as_integer (counted items)

unfoldable pub empty_of : List Item → Outcome
empty_of items = Ok (of_truth (has_no_item items))

unfoldable pub exists_of : List Item → Outcome
exists_of items = Ok (of_truth (has_item items))

unfoldable pub distinct_values_of : List Item → Outcome
distinct_values_of items = and_then (atom_arguments items) (λ atoms. Ok (distinct_values atoms))

unfoldable pub index_of_of : List Item → List Item → Outcome
index_of_of items value = and_then (atom_arguments items) (λ atoms. and_then (atom_argument value) (λ a. index_of atoms a))

unfoldable pub insert_before_of : List Item → List Item → List Item → Outcome
insert_before_of items position inserts = and_then (integer_argument position) (λ p. Ok (inserted_before items p inserts))

unfoldable pub remove_of : List Item → List Item → Outcome
remove_of items position = and_then (integer_argument position) (λ p. Ok (removed items p))

unfoldable pub subsequence_of : List Item → List Item → Outcome
subsequence_of items start = and_then (integer_argument start) (λ s. Ok (from_start items s))

unfoldable pub subsequence_for_of : List Item → List Item → List Item → Outcome
subsequence_for_of items start long =
    and_then (integer_argument start) (λ s. and_then (integer_argument long) (λ l. Ok (from_start_so_many items s l)))

unfoldable pub deep_equal_of : List Item → List Item → Outcome
deep_equal_of items others = Ok (of_truth (deep_equal items others))
