-- Templates and functions as functions of the query (XSLT 2.0, 10.1 and 10.3).
use Rattle.std.specs.Prelude.{ℕ, suc, map, List, [], ◌∷◌, Option, Some, None}
use Rattle.xt_names.specs.declared.names.ExprName.{ExprName}
use Rattle.xt_syntax.specs.declared.exprs.Clause.{Clause}
use Rattle.xt_syntax.specs.declared.exprs.Expr.{Expr}
use Rattle.xt_syntax.specs.declared.patterns.Pattern.{Pattern}
use Rattle.xt_syntax.specs.declared.queries.QueryFunction.{QueryFunction}
use Rattle.xt_syntax.specs.declared.queries.QueryParam.{QueryParam}
use Rattle.xt_sheets.specs.declared.instrs.Bound.{Bound}
use Rattle.xt_sheets.specs.declared.sheets.SheetFunction.{SheetFunction}
use Rattle.xt_sheets.specs.declared.sheets.Template.{Template}
use Rattle.carried_exprs.specs.Sights.{item_name, size_name, variable_of, position_name}
use Rattle.translated_forms.specs.Names.{named_function}
use Rattle.translated_forms.specs.Forms.{arm_of, if_chain, flow_or_body, let_clause}
use Rattle.translated_forms.specs.Converted.{converted}
use Rattle.translated_forms.specs.Places.{Param, Place, Table, of_named, of_function}
use Rattle.translated_forms.specs.Params.{BoundAt, param_of, number_in, flag_of, value_of}
use Rattle.translated_forms.specs.Instrs.{translated_bound, translated_body}

abbrev pub untyped_param : ExprName → QueryParam
untyped_param name = record { name = name; kind = None }

-- a flag and a value for each parameter
abbrev pub pairs_from : ℕ → List Param → List QueryParam
pairs_from n [] = []
pairs_from n (p ∷ ps) =
    untyped_param (flag_of n p) ∷ untyped_param (value_of n p) ∷ pairs_from (suc n) ps

-- the parameters of each function that begins at a focus
abbrev pub focus_params : List Param → List QueryParam
focus_params params =
    untyped_param item_name ∷ untyped_param position_name ∷ untyped_param size_name
    ∷ pairs_from 1 params

-- a function without a type on any parameter: values are converted after the call
abbrev pub focus_function : Table → ExprName → Expr → QueryFunction
focus_function t name body = record {
  name = name;
  params = focus_params t.params;
  kind = None;
  body = body;
}

-- a parameter: the value that is passed, converted, or else its own
abbrev pub number_of : Table → BoundAt → ℕ
number_of t b = number_in t.params (param_of b)

abbrev pub passed_value : Table → BoundAt → Expr
passed_value t b = converted b.kind (variable_of (value_of (number_of t b) (param_of b)))

abbrev pub param_value : Table → Place → BoundAt → Expr
param_value t p b =
    if_chain
    (arm_of (variable_of (flag_of (number_of t b) (param_of b)), passed_value t b) ∷ [])
    (b.value p)

abbrev pub param_let : Table → Place → BoundAt → Clause
param_let t p b = let_clause b.name (param_value t p b)

abbrev pub param_lets : Table → Place → List (Bound Expr Pattern) → List Clause
param_lets t p params = map (λ b. param_let t p (translated_bound t b)) params

unfoldable pub template_expr : Table → Place → Template → Expr
template_expr t p template =
    flow_or_body (param_lets t p template.params) (translated_body t template.body p)

abbrev pub template_function : Table → ExprName → Place → Template → QueryFunction
template_function t name p template =
    record (focus_function t name (template_expr t p template)) { kind = template.kind }

-- the templates that have a name, with their numbers
abbrev pub named_before : Table → ℕ → Template → Option ExprName → (ℕ → List QueryFunction) →
    List QueryFunction
named_before t n template None rest = rest n
named_before t n template (Some name) rest =
    template_function t (named_function n) of_named template ∷ rest (suc n)

abbrev pub named_functions : Table → List Template → ℕ → List QueryFunction
named_functions t [] n = []
named_functions t (template ∷ rest) n =
    named_before t n template template.name (named_functions t rest)

-- a function of the stylesheet keeps its name and its types
abbrev pub typed_param : Bound Expr Pattern → QueryParam
typed_param b = record { name = b.name; kind = b.kind }

abbrev pub sheet_function : Table → SheetFunction → QueryFunction
sheet_function t f = record {
  name = f.name;
  params = map typed_param f.params;
  kind = f.kind;
  body = translated_body t f.body of_function;
}
