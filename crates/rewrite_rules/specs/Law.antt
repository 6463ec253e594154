-- What is asked of a rule: what it makes of an expression means the same, nests no deeper and is
-- smaller.
use Rattle.std.specs.Prelude.{◌≡◌, ◌<◌, ◌≤◌, ℕ, List, [], ◌∷◌, Option, Some, None}
use Rattle.xt_names.specs.declared.names.ExprName.{ExprName}
use Rattle.xt_syntax.specs.declared.exprs.Expr.{Expr}
use Rattle.xdm_items.specs.declared.items.Item.{Item}
use Rattle.xt_forms.specs.Nest.{nest_of}
use Rattle.expr_meaning.specs.Env.{Env, Program, look_up}
use Rattle.expr_meaning.specs.Meaning.{outcome}
use Rattle.rewrite_rules.specs.Sizes.{size_of}

abbrev pub OnSome : {A : Type 0} → (A → Type 0) → Option A → Type 0
OnSome P None = Unit {0}
OnSome P (Some v) = P v

-- the same outcome wherever they are looked at
abbrev pub Same : Expr → Expr → Type 0
Same a b = (p : Program) (env : Env) (k : ℕ) → outcome p a env k ≡ outcome p b env k

-- each of the names has a local list
abbrev pub Binds : List ExprName → Env → Type 0
Binds [] env = Unit {0}
Binds (name ∷ names) env =
    ((xs : List Item) × (look_up env.locals name ≡ Some xs)) × Binds names env

-- .. where these names are bound
abbrev pub SameWhere : List ExprName → Expr → Expr → Type 0
SameWhere bound a b =
    (p : Program) (env : Env) → Binds bound env → (k : ℕ) → outcome p a env k ≡ outcome p b env k

pub record IsTidier (bound : List ExprName) (before after : Expr) : Type 0 where
  pub same : SameWhere bound after before
  pub nest : nest_of after ≤ nest_of before
  pub size : size_of after < size_of before

-- the rule gives what is tidier, wherever its form stands
abbrev pub Tidies : (List ExprName → Expr → Option Expr) → Type 0
Tidies rule = (bound : List ExprName) (e : Expr) → OnSome (IsTidier bound e) (rule bound e)
