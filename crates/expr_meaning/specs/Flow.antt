-- FLWOR expressions (XQuery 1.0, 3.8).
use Rattle.std.specs.Prelude.{ℕ, List, [], ◌∷◌, map, Bool, true, false, Option, Some, None, pos}
use Rattle.xt_names.specs.declared.names.ExprName.{ExprName}
use Rattle.xt_atoms.specs.Casts.{wrong_type}
use Rattle.xdm_items.specs.declared.items.Item.{Item}
use Rattle.xdm_items.specs.FunctionArguments.Answers.{of_integer}
use Rattle.order_group.specs.Rows.{Keyed}
use Rattle.expr_meaning.specs.Outcomes.Outcome.{Outcome, Ends, and_then, step_outcome, for_each}
use Rattle.expr_meaning.specs.SortMeaning.Sorted.{Column, Placed, places, key_cell, with_row, ordered}
use Rattle.expr_meaning.specs.Env.{Binding, Env, Meaning, bind_all}
use Rattle.expr_meaning.specs.Logic.{Bound, typed, truth_at}

-- The tuples that are left, each with its keys. A tuple is what the clauses have bound, apart from
-- the bindings around the expression.
abbrev pub Tuples : Type 0
Tuples = List Binding → Env → ℕ → Outcome (List (Keyed (List Binding)))

-- what a clause does with what follows it
abbrev pub ClauseMeaning : Type 0
ClauseMeaning = Tuples → Tuples

-- an item of a `for`, if it is of the type
abbrev pub for_item : Bound → Tuples → List Binding → Env → Item → ℕ →
    Outcome (List (Keyed (List Binding)))
for_item b rest bound env x k =
    and_then (step_outcome (typed b.kind (x ∷ [])) k) (λ ys. rest ((b.var, ys) ∷ bound) env)

abbrev pub for_clause : Bound → ClauseMeaning
for_clause b rest bound env k =
    and_then (b.source (bind_all bound env) k) (for_each (for_item b rest bound env))

-- the same with the position, from 1
abbrev pub for_place : Bound → ExprName → Tuples → List Binding → Env → Placed Item → ℕ →
    Outcome (List (Keyed (List Binding)))
for_place b at rest bound env f k =
    and_then (step_outcome (typed b.kind (f.value ∷ [])) k) (λ ys.
    rest ((at, of_integer (pos f.place)) ∷ (b.var, ys) ∷ bound) env)

abbrev pub for_at_clause : Bound → ExprName → ClauseMeaning
for_at_clause b at rest bound env k =
    and_then (b.source (bind_all bound env) k) (λ xs j.
    and_then (step_outcome (places xs) j) (for_each (for_place b at rest bound env)))

abbrev pub let_clause : Bound → ClauseMeaning
let_clause b rest bound env k =
    and_then (b.source (bind_all bound env) k) (λ xs j.
    and_then (step_outcome (typed b.kind xs) j) (λ ys. rest ((b.var, ys) ∷ bound) env))

abbrev pub kept_tuple : Tuples → List Binding → Env → Bool → ℕ →
    Outcome (List (Keyed (List Binding)))
kept_tuple rest bound env true k = rest bound env k
kept_tuple rest bound env false k = Ends [] k

abbrev pub where_clause : Option Meaning → ClauseMeaning
where_clause None rest bound env k = rest bound env k
where_clause (Some test) rest bound env k =
    and_then (truth_at test (bind_all bound env) k) (kept_tuple rest bound env)

-- the first clause first
abbrev pub flow_of : List ClauseMeaning → ClauseMeaning
flow_of [] rest = rest
flow_of (clause ∷ clauses) rest = clause (flow_of clauses rest)

-- a key of `order by`, and whether it descends
abbrev pub OrderMeaning : Type 0
OrderMeaning = Meaning × Bool

-- the column that a key is, where a value has what can be read at it
abbrev pub order_column : {A : Type 0} → (A → Env) → OrderMeaning → Column A
order_column at o = record {
  key = λ x k. and_then (o.0 (at x) k) (λ xs j. step_outcome (key_cell wrong_type xs) j);
  descending = o.1;
}

abbrev pub columns_at : {A : Type 0} → (A → Env) → List OrderMeaning → List (Column A)
columns_at at os = map (order_column at) os

-- a tuple with its keys
abbrev pub keyed : List OrderMeaning → Tuples
keyed os bound env k = with_row (columns_at (λ b. bind_all b env) os) bound k

-- the order of all tuples, and then the bodies
abbrev pub finished : List OrderMeaning → Meaning → Env → List (Keyed (List Binding)) → ℕ →
    Outcome (List Item)
finished os body env rows k =
    and_then (ordered wrong_type (map (λ o. o.1) os) rows k)
    (for_each (λ bound. body (bind_all bound env)))

-- the tuples in order, for each one the test and then its keys; after all of them their order, and
-- then the bodies
abbrev pub flwor_of :
    List ClauseMeaning → Option Meaning → List OrderMeaning → Meaning → Meaning
flwor_of clauses test os body env k =
    and_then (flow_of clauses (where_clause test (keyed os)) [] env k) (finished os body env)
