-- Stylesheets whose expressions, patterns, variables and parameters may stand where they do.
use Rattle.std.specs.Prelude.{List, Bool, false, not, ◌&&◌, ◌||◌, nat_le}
use Rattle.std.specs.List.{list_all}
use Rattle.xt_syntax.specs.declared.exprs.Expr.{Expr}
use Rattle.xt_syntax.specs.declared.patterns.Pattern.{Pattern}
use Rattle.xt_sheets.specs.declared.instrs.Instr.{Instr}
use Rattle.xt_sheets.specs.declared.instrs.Bound.{Bound}
use Rattle.xt_sheets.specs.declared.sheets.Global.{Global}
use Rattle.xt_sheets.specs.declared.sheets.Template.{Template}
use Rattle.xt_sheets.specs.declared.sheets.SheetFunction.{SheetFunction}
use Rattle.xt_sheets.specs.declared.sheets.KeyRule.{KeyRule}
use Rattle.xt_sheets.specs.declared.sheets.Sheet.{Sheet}
use Rattle.closed_sheets.specs.SheetForms.SheetNest.{sheet_nest_of}
use Rattle.sheet_expressions.specs.Uses.{is_key_use}
use Rattle.sheet_closure.specs.StandingParts.Calls.{expr_stands}
use Rattle.sheet_closure.specs.StandingParts.Patterns.{is_alternative}
use Rattle.sheet_closure.specs.StandingParts.Bodies.{bound_stands, body_stands, params_stand}

-- a parameter alone may be required (XSLT 2.0, 9.5)
unfoldable pub global_stands : Global → Bool
global_stands g =
    (g.param || not (bound_stands g.bound).value.required)
    && (bound_stands g.bound).value.stands false

-- the parameters and the content of a template or a function
abbrev pub callee_stands : List (Bound Expr Pattern) → List (Instr Expr Pattern) → Bool
callee_stands params body = params_stand params false && body_stands body false

unfoldable pub template_stands : Template → Bool
template_stands t = callee_stands t.params t.body

unfoldable pub function_stands : SheetFunction → Bool
function_stands f = callee_stands f.params f.body

-- `use` names no variable and calls no key() (16.3.1)
unfoldable pub key_stands : KeyRule → Bool
key_stands k = is_alternative k.pattern && (expr_stands false k.key && is_key_use k.key)

-- Instructions nest at most 40 levels, and so do expressions and patterns. Each pattern is an
-- alternative. Calls of functions that stylesheets alone have stand where they may. No instruction has
-- both `select` and content, and parameters alone are required. No two parameters of one template or
-- function, and no two that one instruction passes, have one name.
unfoldable pub parts_stand : Sheet → Bool
parts_stand s =
    nat_le (sheet_nest_of s) 40
    && (list_all global_stands s.globals
    && (list_all template_stands s.templates
    && (list_all (λ r. is_alternative r.pattern) s.rules
    && (list_all function_stands s.functions && list_all key_stands s.keys))))
