-- What calls with one argument mean.
use Rattle.std.proofs.Common.{◌≡◌, ℕ, refl, [], ◌∷◌, ◌++◌, List}
use Rattle.expr_meaning.specs.Outcomes.Outcome.{Ends, and_then, Outcome, Fails, Deep, step_outcome}
use Rattle.xdm_items.specs.declared.items.Item.{Item}
use Rattle.xt_names.specs.declared.names.ExprName.{ExprName}
use Rattle.function_table.specs.declared.builtins.Builtin.{Builtin}
use Rattle.fn_lib.specs.Functions.{function_value}
use Rattle.expr_meaning.specs.Env.{Env, Meaning, Program}
use Rattle.expr_meaning.specs.Calls.{library, called, call_of, call_value}

-- what follows the list of the only argument
behind_one : (go : List (List Item) → ℕ → Outcome (List Item)) (o : Outcome (List Item)) →
    and_then (and_then (and_then o (λ xs j. Ends (xs ∷ []) j)) (λ ys j. Ends (ys ++ []) j)) go
    ≡ and_then o (λ xs. go (xs ∷ []))
behind_one go (Ends xs j) = refl
behind_one go (Fails code) = refl
behind_one go Deep = refl

pub library_call : (p : Program) (name : ExprName) (m : Meaning) (f : Builtin) →
    library f ≡ called name 1 → (env : Env) (k : ℕ) →
    call_of p name (m ∷ []) env k
    ≡ and_then (m env k) (λ xs j. step_outcome (function_value f (xs ∷ [])) j)
library_call p name m f is env k =
    rw (← is) (behind_one (call_value p (library f) name env) (m env k))
