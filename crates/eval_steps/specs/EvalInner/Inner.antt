-- A closure that evaluates the expressions within a form.
use Rattle.std.specs.Prelude.{ℕ, List, Result, ◌≤◌, ◌<◌}
use Rattle.std.specs.Borrow.{Bor, MutBor}
use Rattle.xdm_items.specs.declared.items.Item.{Item}
use Rattle.xt_syntax.specs.declared.exprs.Expr.{Expr}
use Rattle.expr_meaning.specs.Env.{Program}
use Rattle.expr_meaning.specs.Meaning.{outcome}
use Rattle.eval_lates.specs.EvalScopes.declared.environments.Env.{Env}
use Rattle.eval_lates.specs.EvalScopes.declared.faults.EvalFault.{EvalFault}
use Rattle.eval_lates.specs.EvalScopes.Scopes.{env_of}
use Rattle.eval_steps.specs.Sizes.{nodes}
use Rattle.eval_steps.specs.ValueSlots.Slots.{Leaves}

-- what a call of it needs, and what holds of its answer; its last argument is where the value is put
abbrev pub Pre : Type 1
Pre = Bor Env → MutBor ℕ → Bor Expr → MutBor (List Item) → Type 0

abbrev pub Post : Type 1
Post = Bor Env → MutBor ℕ → Bor Expr → MutBor (List Item) → Result (Unit {0}) EvalFault → MutBor ℕ →
    MutBor (List Item) → Type 0

-- it may be called at every expression of at most so many nodes
unfoldable pub CanEvaluate : Pre → ℕ → Type 0
CanEvaluate pre n =
    (env : Bor Env) (next : MutBor ℕ) (e : Bor Expr) (value : MutBor (List Item)) → nodes e.now ≤ n →
    pre env next e value

-- it may be called at every expression of fewer nodes
unfoldable pub CanEvaluateBelow : Pre → ℕ → Type 0
CanEvaluateBelow pre n =
    (env : Bor Env) (next : MutBor ℕ) (e : Bor Expr) (value : MutBor (List Item)) → nodes e.now < n →
    pre env next e value

-- what each call leaves is the outcome of the expression in the program
unfoldable pub Evaluates : Post → Program → Type 0
Evaluates post p =
    (env : Bor Env) (next : MutBor ℕ) (e : Bor Expr) (value : MutBor (List Item))
    (r : Result (Unit {0}) EvalFault) (left : MutBor ℕ) (put : MutBor (List Item)) →
    post env next e value r left put →
    Leaves r put.now left.now (outcome p e.now (env_of env.now) next.now)
