-- Forms of the query of which the helper functions are made.
use Rattle.std.specs.Prelude.{ℤ, map, List, [], ◌∷◌}
use Rattle.xt_syntax.specs.declared.exprs.Expr.{Expr}
use Rattle.xt_syntax.specs.declared.exprs.Clause.TheViews.{roll-Expr}
use Rattle.xt_syntax.specs.declared.exprs.Clause.TheOpen.{Int, And, If}
pub use Rattle.carried_exprs.specs.QueryForms.{arm_of}
pub use Rattle.carried_exprs.specs.QueryForms.{for_in, for_at, let_in, if_of, some_in}
pub use Rattle.carried_exprs.specs.QueryForms.{of_kind, is_of_kind, text_literal}

-- `if` with any number of arms
abbrev pub if_many : List (Expr × Expr) → Expr → Expr
if_many arms c = roll-Expr (If (map arm_of arms) c)

abbrev pub both_of : Expr → Expr → Expr
both_of a b = roll-Expr (And (a ∷ b ∷ []))

abbrev pub integer_of : ℤ → Expr
integer_of n = roll-Expr (Int n)
