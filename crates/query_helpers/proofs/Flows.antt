-- Flows of one clause without keys.
use Rattle.std.proofs.Common.{◌≡◌, ℕ, List, [], ◌∷◌, ◌++◌, refl, ap, sym, ◌∙◌, map}
use Rattle.std.proofs.lemmas.List.{append-nil}
use Rattle.std.specs.Prelude.{None}
use Rattle.xt_names.specs.declared.names.ExprName.{ExprName}
use Rattle.xt_atoms.specs.Casts.{wrong_type}
use Rattle.xdm_items.specs.declared.items.Item.{Item}
use Rattle.expr_meaning.specs.Outcomes.Outcome.{Outcome, Ends, Fails, Deep, and_then, step_outcome, for_each}
use Rattle.expr_meaning.proofs.OutcomesLemmas.Steps.{then_assoc, then_same, each_map}
use Rattle.expr_meaning.specs.SortMeaning.Sorted.{Placed, places, with_row, ordered}
use Rattle.expr_meaning.proofs.SortMeaning.Sorting.{sorted_plain}
use Rattle.expr_meaning.specs.Env.{Binding, Env, Meaning, bind_all}
use Rattle.expr_meaning.specs.Flow.{for_clause, for_at_clause, let_clause, flwor_of}
use Rattle.std.specs.Prelude.{pos}
use Rattle.xdm_items.specs.FunctionArguments.Answers.{of_integer}

-- tuples without keys are kept as they are, and then the bodies
bodies : (xs : List (List Binding)) (body : Meaning) (env : Env) (k : ℕ) →
    and_then (and_then (for_each (with_row []) xs k) (ordered wrong_type []))
    (for_each (λ bound. body (bind_all bound env)))
    ≡ for_each (λ bound. body (bind_all bound env)) xs k
bodies xs body env k =
    ap (λ o. and_then o (for_each (λ bound. body (bind_all bound env)))) (sorted_plain wrong_type xs k)

-- what each value of a list is bound to
bound_bodies : {A : Type 0} (g : A → List Binding) (xs : List A) (body : Meaning) (env : Env) (k : ℕ) →
    and_then (for_each (λ x. with_row [] (g x)) xs k) (λ rows j.
    and_then (ordered wrong_type [] rows j) (for_each (λ bound. body (bind_all bound env))))
    ≡ for_each (λ x. body (bind_all (g x) env)) xs k
bound_bodies g xs body env k =
    ap (λ o. and_then o (λ rows j. and_then (ordered wrong_type [] rows j)
    (for_each (λ bound. body (bind_all bound env))))) (sym (each_map (with_row []) g xs k))
    ∙ sym (then_assoc (for_each (with_row []) (map g xs) k) (ordered wrong_type [])
    (for_each (λ bound. body (bind_all bound env))))
    ∙ bodies (map g xs) body env k
    ∙ each_map (λ bound. body (bind_all bound env)) g xs k

pub for_is : (v : ExprName) (a body : Meaning) (env : Env) (k : ℕ) →
    flwor_of (for_clause (record { var = v; kind = None; source = a }) ∷ []) None [] body env k
    ≡ and_then (a env k) (for_each (λ x. body (bind_all ((v, x ∷ []) ∷ []) env)))
for_is v a body env k =
    then_assoc (a env k) (for_each (λ x. with_row [] ((v, x ∷ []) ∷ []))) _
    ∙ then_same (a env k) _ _ (λ xs j. bound_bodies (λ x. (v, x ∷ []) ∷ []) xs body env j)

pub for_at_is : (v at : ExprName) (a body : Meaning) (env : Env) (k : ℕ) →
    flwor_of (for_at_clause (record { var = v; kind = None; source = a }) at ∷ []) None [] body env k
    ≡ and_then (a env k) (λ xs j. and_then (step_outcome (places xs) j)
    (for_each (λ f. body (bind_all ((at, of_integer (pos f.place)) ∷ (v, f.value ∷ []) ∷ []) env))))
for_at_is v at a body env k =
    then_assoc (a env k) _ _
    ∙ then_same (a env k) _ _ (λ xs j.
    then_assoc (step_outcome (places xs) j) (for_each (λ (f : Placed Item). with_row []
    ((at, of_integer (pos f.place)) ∷ (v, f.value ∷ []) ∷ []))) _
    ∙ then_same (step_outcome (places xs) j) _ _ (λ fs i.
    bound_bodies (λ (f : Placed Item). (at, of_integer (pos f.place)) ∷ (v, f.value ∷ []) ∷ []) fs
    body env i))

pub one_each : (o : Outcome (List Item)) →
    and_then o (λ ys j. and_then (Ends [] j) (λ zs i. Ends (ys ++ zs) i)) ≡ o
one_each (Ends ys j) = ap (λ zs. Ends zs j) (append-nil ys)
one_each (Fails code) = refl
one_each Deep = refl

pub let_is : (v : ExprName) (a body : Meaning) (env : Env) (k : ℕ) →
    flwor_of (let_clause (record { var = v; kind = None; source = a }) ∷ []) None [] body env k
    ≡ and_then (a env k) (λ xs. body (bind_all ((v, xs) ∷ []) env))
let_is v a body env k =
    then_assoc (a env k) _ _
    ∙ then_same (a env k) _ _ (λ xs j.
    bound_bodies (λ (ys : List Item). (v, ys) ∷ []) (xs ∷ []) body env j
    ∙ one_each (body (bind_all ((v, xs) ∷ []) env) j))
