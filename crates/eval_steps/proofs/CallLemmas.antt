-- Calls of one argument, and predicates that are integers.
use Rattle.std.proofs.Common.{◌≡◌, ℕ, refl, ap, sym, ◌∙◌, List, [], ◌∷◌, ◌++◌, map}
use Rattle.std.specs.Prelude.{ℤ}
use Rattle.xt_names.specs.declared.names.ExprName.{ExprName}
use Rattle.xdm_items.specs.declared.items.Item.{Item}
use Rattle.xt_syntax.specs.declared.exprs.Expr.TheVariants.{Int, rolls-Int}
use Rattle.xt_syntax.specs.declared.exprs.Expr.{Expr}
use Rattle.xt_syntax.specs.declared.exprs.Clause.TheFolds.{fold-roll-Expr}
use Rattle.expr_meaning.specs.Outcomes.Outcome.{Outcome, Ends, Fails, Deep, and_then}
use Rattle.expr_meaning.specs.Env.{Env, Meaning, Program}
use Rattle.expr_meaning.specs.Calls.{call_of, call_value, called}
use Rattle.expr_meaning.specs.Meaning.{outcome}
use Rattle.expr_meaning.specs.Paths.{filter_of, kept}
use Rattle.eval_lates.specs.Late.{literal}

one_list : {B : Type 0} (o : Outcome (List Item)) (go : List (List Item) → ℕ → Outcome B) →
    and_then (and_then (and_then o (λ xs j. Ends (xs ∷ []) j))
    (λ ys j. and_then (Ends [] j) (λ zs i. Ends (ys ++ zs) i))) go
    ≡ and_then o (λ xs. go (xs ∷ []))
one_list (Ends xs k) go = refl
one_list (Fails code) go = refl
one_list Deep go = refl

-- a call of one argument
pub call_of_one : (p : Program) (name : ExprName) (m : Meaning) (env : Env) (k : ℕ) →
    call_of p name (m ∷ []) env k
    ≡ and_then (m env k) (λ xs. call_value p (called name 1) name env (xs ∷ []))
call_of_one p name m env k =
    one_list (m env k) (call_value p (called name 1) name env)

itself : (o : Outcome (List Item)) → and_then o (λ ys i. Ends ys i) ≡ o
itself (Ends xs k) = refl
itself (Fails code) = refl
itself Deep = refl

pub int_means : (p : Program) (n : ℤ) → outcome p (Int n) ≡ literal n
int_means p n =
    ap (outcome p) (sym (rolls-Int n))
    ∙ fold-roll-Expr _ _ _ _ _ _ _ _ _ _ _ _ _ _ _ _ _ _ _

same_then : {A B : Type 0} (o : Outcome A) (f g : A → ℕ → Outcome B) →
    ((a : A) (k : ℕ) → f a k ≡ g a k) → and_then o f ≡ and_then o g
same_then (Ends a k) f g e = e a k
same_then (Fails code) f g e = refl
same_then Deep f g e = refl

-- a filter whose only predicate is an integer
pub filter_at : (p : Program) (of : Meaning) (tests : List Expr) (n : ℤ) (env : Env) (k : ℕ) →
    tests ≡ Int n ∷ [] →
    filter_of of (map (outcome p) tests) env k ≡ and_then (of env k) (kept (literal n) env)
filter_at p of tests n env k e =
    rw (e, int_means p n)
    (same_then (of env k) _ _ (λ xs j. itself (kept (literal n) env xs j)))
