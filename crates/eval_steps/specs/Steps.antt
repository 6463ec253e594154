-- What is done between evaluations.
use Rattle.std.specs.Prelude.{ℕ, List, [], ◌∷◌, Result, length, Bool, true, false, Option, Some}
use Rattle.std.specs.Prelude.{None}
use Rattle.xt_names.specs.declared.codes.Code.{Code}
use Rattle.xt_names.specs.declared.names.ExprName.{ExprName}
use Rattle.xdm_items.specs.declared.items.Item.{Item}
use Rattle.xdm_items.specs.FunctionArguments.Arguments.{and_then as result_then}
use Rattle.expr_meaning.specs.Outcomes.Outcome.{Outcome, Ends, and_then, step_outcome, for_each}
use Rattle.xt_atoms.specs.Casts.{wrong_type}
use Rattle.order_group.specs.Rows.{Row}
use Rattle.expr_meaning.specs.SortMeaning.Sorted.{counted, key_cell}
use Rattle.expr_meaning.specs.Env.{Binding, Env, Meaning}
use Rattle.expr_meaning.specs.Logic.{truth_at}
use Rattle.expr_meaning.specs.Paths.{path_nodes}
use Rattle.expr_meaning.specs.Flow.{OrderMeaning}

-- a variable with its value
abbrev pub bound_outcome : ExprName → Result (List Item) Code → ℕ → Outcome Binding
bound_outcome name value k = and_then (step_outcome value k) (λ xs j. Ends (name, xs) j)

-- how many items there are
abbrev pub item_count : List Item → Result ℕ Code
item_count xs = counted xs (length xs)

-- .. where they are nodes
abbrev pub path_count : List Item → Result ℕ Code
path_count xs = result_then (path_nodes xs) item_count

-- a key of a tuple
abbrev pub key_of_tuple : Env → OrderMeaning → ℕ → Outcome Row
key_of_tuple env o k =
    and_then (o.0 env k) (λ xs j. and_then (step_outcome (key_cell wrong_type xs) j)
    (λ cell i. Ends (cell ∷ []) i))

-- all of them
abbrev pub keys_of : List OrderMeaning → Env → ℕ → Outcome Row
keys_of os env k = for_each (key_of_tuple env) os k

-- the test of a tuple, where there is one
abbrev pub test_at : Option Meaning → Env → ℕ → Outcome Bool
test_at None env k = Ends true k
test_at (Some test) env k = truth_at test env k

-- an item, if it is kept
abbrev pub alone : Item → Bool → List Item
alone x true = x ∷ []
alone x false = []
