-- A sequence constructor, as a loop goes through it: what is made so far comes before the rest.
use Rattle.std.proofs.Common.{◌≡◌, ◌++◌, ℕ, List, refl, sym, ap}
use Rattle.std.proofs.lemmas.List.{append_assoc}
use Rattle.xt_names.specs.declared.names.ExprName.{ExprName}
use Rattle.xdm_items.specs.declared.items.Item.{Item}
use Rattle.expr_meaning.specs.Outcomes.Outcome.{Outcome, Ends, Fails, Deep, and_then}
use Rattle.expr_meaning.proofs.OutcomesLemmas.Steps.{then_assoc}
use Rattle.expr_meaning.specs.Env.{Env, Meaning, bind}
use Rattle.transform_meaning.specs.Bindings.{bound_then, then_rest}

abbrev pub behind : List Item → Outcome (List Item) → Outcome (List Item)
behind xs o = and_then o (λ ys i. Ends (xs ++ ys) i)

behind_both : (xs ys : List Item) (o : Outcome (List Item)) →
    behind xs (behind ys o) ≡ behind (xs ++ ys) o
behind_both xs ys (Ends zs i) = ap (λ l. Ends l i) (sym (append_assoc xs ys zs))
behind_both xs ys (Fails code) = refl
behind_both xs ys Deep = refl

-- one instruction more
pub makes_next : (made : List Item) (m rest : Meaning) (env : Env) (k : ℕ) →
    behind made (then_rest m rest env k)
    ≡ and_then (m env k) (λ xs j. behind (made ++ xs) (rest env j))
makes_next made m rest env k = by (m env k)
  where
    by : (o : Outcome (List Item)) →
        behind made (and_then o (λ xs j. behind xs (rest env j)))
        ≡ and_then o (λ xs j. behind (made ++ xs) (rest env j))
    by (Ends xs j) = behind_both made xs (rest env j)
    by (Fails code) = refl
    by Deep = refl

-- a variable, and the rest with it
pub binds_next : (made : List Item) (name : ExprName) (value rest : Meaning) (env : Env) (k : ℕ) →
    behind made (bound_then name value rest env k)
    ≡ and_then (value env k) (λ xs j. behind made (rest (bind name xs env) j))
binds_next made name value rest env k =
    then_assoc (value env k) (λ xs. rest (bind name xs env)) (λ ys i. Ends (made ++ ys) i)
