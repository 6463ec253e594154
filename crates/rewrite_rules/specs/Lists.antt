-- Lists of items: a list within a list is one list, and a list of one part is that part.
use Rattle.std.specs.Prelude.{List, [], ◌∷◌, ◌++◌, Bool, true, false, Option, Some, None}
use Rattle.std.specs.Prelude.{if◌then◌else◌}
use Rattle.xt_names.specs.declared.names.ExprName.{ExprName}
use Rattle.xt_syntax.specs.declared.exprs.Expr.{Expr}
use Rattle.xt_syntax.specs.declared.exprs.Clause.TheOpen.{Comma}
use Rattle.xt_syntax.specs.declared.exprs.Clause.TheViews.{out-Expr, roll-Expr}
use Rattle.rewrite_rules.specs.Forms.{ExprForm, some_of}

abbrev pub is_list_form : ExprForm → Bool
is_list_form (Comma all) = true
is_list_form x = false

abbrev pub is_list : Expr → Bool
is_list e = is_list_form (out-Expr e)

-- the parts of a list, and of any other expression itself
abbrev pub parts_in : Expr → ExprForm → List Expr
parts_in e (Comma all) = all
parts_in e x = e ∷ []

abbrev pub flat : List Expr → List Expr
flat [] = []
flat (e ∷ es) = parts_in e (out-Expr e) ++ flat es

abbrev pub flat_list : List Expr → Option Expr
flat_list all = if some_of is_list all then Some (roll-Expr (Comma (flat all))) else None

abbrev pub list_rule : List Expr → Option Expr
list_rule [] = None
list_rule (e ∷ []) = Some e
list_rule (a ∷ b ∷ more) = flat_list (a ∷ b ∷ more)

abbrev pub rule_3_form : ExprForm → Option Expr
rule_3_form (Comma all) = list_rule all
rule_3_form x = None

abbrev pub rule_3 : List ExprName → Expr → Option Expr
rule_3 bound e = rule_3_form (out-Expr e)
