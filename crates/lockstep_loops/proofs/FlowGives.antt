-- What flows of several clauses do, clause by clause.
use Rattle.std.proofs.Common.{◌≡◌, ℕ, List, [], ◌∷◌, ap, sym, ◌∙◌, map}
use Rattle.std.proofs.lemmas.Simd.{map-map}
use Rattle.std.specs.Prelude.{Option, None}
use Rattle.xt_names.specs.declared.names.ExprName.{ExprName}
use Rattle.xt_atoms.specs.Casts.{wrong_type}
use Rattle.xdm_items.specs.declared.items.Item.{Item}
use Rattle.expr_meaning.specs.Outcomes.Outcome.{Outcome, and_then, step_outcome, for_each}
use Rattle.expr_meaning.proofs.OutcomesLemmas.Steps.{then_assoc, then_same, each_map, made}
use Rattle.expr_meaning.specs.SortMeaning.Sorted.{Column, Placed, places, with_row, ordered, sorted, moved}
use Rattle.expr_meaning.specs.SortMeaning.Sorted.{directions}
use Rattle.expr_meaning.proofs.SortMeaning.Sorting.{sorted_moved}
use Rattle.expr_meaning.specs.Env.{Binding, Env, Meaning, bind_all}
use Rattle.expr_meaning.specs.Calls.{position_of}
use Rattle.expr_meaning.specs.Flow.{ClauseMeaning, OrderMeaning, for_at_clause, let_clause, flow_of}
use Rattle.expr_meaning.specs.Flow.{where_clause, keyed, finished, order_column, columns_at}

-- the rest of a flow after these bindings
abbrev pub flow_from : List ClauseMeaning → Option Meaning → List OrderMeaning → Meaning →
    List Binding → Env → ℕ → Outcome (List Item)
flow_from cs test os body bound env k =
    and_then (flow_of cs (where_clause test (keyed os)) bound env k) (finished os body env)

-- an item at its place
abbrev pub turn : ExprName → ExprName → List Binding → Placed Item → List Binding
turn v at bound p = (at, position_of p) ∷ (v, p.value ∷ []) ∷ bound

pub let_first : (v : ExprName) (a : Meaning) (cs : List ClauseMeaning) (test : Option Meaning)
    (os : List OrderMeaning) (body : Meaning) (bound : List Binding) (env : Env) (k : ℕ) →
    flow_from (let_clause (record { var = v; kind = None; source = a }) ∷ cs) test os body bound env k
    ≡ and_then (a (bind_all bound env) k) (λ xs. flow_from cs test os body ((v, xs) ∷ bound) env)
let_first v a cs test os body bound env k = then_assoc (a (bind_all bound env) k) _ _

-- tuples that are made of values are in order as these
rows_made : {A : Type 0} (g : A → List Binding) (os : List OrderMeaning) (body : Meaning) (env : Env)
    (xs : List A) (k : ℕ) →
    and_then (for_each (λ x. with_row (columns_at (λ b. bind_all b env) os) (g x)) xs k)
    (finished os body env)
    ≡ and_then (sorted wrong_type (columns_at (λ x. bind_all (g x) env) os) xs k)
    (for_each (λ x. body (bind_all (g x) env)))
rows_made {A = A} g os body env xs k =
    let cs = columns_at (λ b. bind_all b env) os in
    let bodies = for_each (λ b. body (bind_all b env)) in
    ap (λ o. and_then o (finished os body env)) (sym (each_map (with_row cs) g xs k))
    ∙ ap (λ ds. and_then (for_each (with_row cs) (map g xs) k)
    (λ rows j. and_then (ordered wrong_type ds rows j) bodies))
    (sym (map-map (λ (c : Column (List Binding)). c.descending) (order_column (λ b. bind_all b env)) os))
    ∙ sym (then_assoc (for_each (with_row cs) (map g xs) k) (ordered wrong_type (directions cs)) bodies)
    ∙ ap (λ o. and_then o bodies) (sorted_moved g wrong_type cs xs k)
    ∙ ap (λ ds. and_then (and_then (sorted wrong_type ds xs k) (made g)) bodies)
    (map-map (moved g) (order_column (λ b. bind_all b env)) os)
    ∙ then_assoc (sorted wrong_type (columns_at (λ x. bind_all (g x) env) os) xs k) (made g) bodies
    ∙ then_same (sorted wrong_type (columns_at (λ x. bind_all (g x) env) os) xs k) _ _
    (λ gs i. each_map (λ b. body (bind_all b env)) g gs i)

-- `for $v at $place in a order by .. return body`
pub at_last : (v at : ExprName) (a : Meaning) (os : List OrderMeaning) (body : Meaning)
    (bound : List Binding) (env : Env) (k : ℕ) →
    flow_from (for_at_clause (record { var = v; kind = None; source = a }) at ∷ []) None os body
    bound env k
    ≡ and_then (a (bind_all bound env) k) (λ xs j. and_then (step_outcome (places xs) j) (λ fs i.
    and_then (sorted wrong_type (columns_at (λ p. bind_all (turn v at bound p) env) os) fs i)
    (for_each (λ p. body (bind_all (turn v at bound p) env)))))
at_last v at a os body bound env k =
    then_assoc (a (bind_all bound env) k) _ _
    ∙ then_same (a (bind_all bound env) k) _ _ (λ xs j.
    then_assoc (step_outcome (places xs) j) _ _
    ∙ then_same (step_outcome (places xs) j) _ _ (λ fs i. rows_made (turn v at bound) os body env fs i))
