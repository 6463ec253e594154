-- The predicates of a pattern, as predicates of a path that fails nowhere.
use Rattle.std.specs.Prelude.{[], ◌∷◌, map, false, if◌then◌else◌}
use Rattle.xt_names.specs.declared.kinds.AtomType.TheVariants.{Int as IntegerType}
use Rattle.xt_syntax.specs.declared.exprs.Expr.{Expr}
use Rattle.xt_syntax.specs.declared.exprs.Clause.TheViews.{out-Expr, roll-Expr}
use Rattle.xt_syntax.specs.declared.exprs.Clause.TheOpen.{And, General, Step, Context, Castable}
use Rattle.walk_laws.specs.QuietValues.Given.{has_quiet_form}
use Rattle.carried_exprs.specs.Forms.{ExprForm}

-- `. castable as xs:integer`
abbrev pub integer_castable : Expr
integer_castable = roll-Expr (Castable (roll-Expr Context) IntegerType false)

-- of a step without predicates the nodes whose value is an integer
abbrev pub integer_nodes : Expr → ExprForm → Expr
integer_nodes a (Step axis wanted tests) = roll-Expr (Step axis wanted (integer_castable ∷ []))
integer_nodes a x = a

-- An attribute compared with an integer: one that is no integer compares as false.
abbrev pub integer_comparison : Expr → ExprForm → Expr
integer_comparison e (General op a b) = roll-Expr (General op (integer_nodes a (out-Expr a)) b)
integer_comparison e x = e

-- predicates that are quiet stay as they are
abbrev pub unfailing_part : Expr → Expr
unfailing_part e = if has_quiet_form e then e else integer_comparison e (out-Expr e)

abbrev pub unfailing_form : Expr → ExprForm → Expr
unfailing_form e (And all) = roll-Expr (And (map unfailing_part all))
unfailing_form e x = integer_comparison e x

-- the comparison stands alone, or once in an `and`
abbrev pub unfailing : Expr → Expr
unfailing e = if has_quiet_form e then e else unfailing_form e (out-Expr e)
