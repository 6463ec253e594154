-- A closure that gives the expressions within a form as sequences that are walked on demand.
use Rattle.std.specs.Prelude.{ℕ, Result, ◌<◌}
use Rattle.std.specs.Borrow.{Bor, MutBor}
use Rattle.xt_syntax.specs.declared.exprs.Expr.{Expr}
use Rattle.lazy_seq.specs.Flow.{Flow}
use Rattle.expr_meaning.specs.Env.{Program}
use Rattle.expr_meaning.specs.Meaning.{outcome}
use Rattle.eval_scopes.specs.declared.environments.Env.{Env}
use Rattle.eval_scopes.specs.declared.faults.EvalFault.{EvalFault}
use Rattle.eval_scopes.specs.Scopes.{env_of}
use Rattle.eval_steps.specs.EvalLates.Late.{AnswersLate}
use Rattle.eval_steps.specs.Sizes.{nodes}

-- what a call of it needs, and what holds of its answer
abbrev pub Pre : Type 1
Pre = Bor Env → MutBor ℕ → Bor Expr → Type 0

abbrev pub Post : Type 1
Post = Bor Env → MutBor ℕ → Bor Expr → Result Flow EvalFault → MutBor ℕ → Type 0

-- it may be called at every expression of fewer nodes
unfoldable pub CanEvaluateLate : Pre → ℕ → Type 0
CanEvaluateLate pre n =
    (env : Bor Env) (next : MutBor ℕ) (e : Bor Expr) → nodes e.now < n → pre env next e

-- each call answers the outcome of the expression in the program
unfoldable pub EvaluatesLate : Post → Program → Type 0
EvaluatesLate post p =
    (env : Bor Env) (next : MutBor ℕ) (e : Bor Expr) (r : Result Flow EvalFault)
    (left : MutBor ℕ) → post env next e r left →
    AnswersLate r left.now (outcome p e.now (env_of env.now) next.now)
