-- What variables and functions mean that are written, and the rules that they break in how they are
-- written (XQuery 1.0, 4.14 and 4.15).
use Rattle.std.specs.Prelude.{ℕ, List, [], ◌∷◌, ◌++◌, map, Option, Some, None, option_map}
use Rattle.xt_names.specs.declared.names.ExprName.{ExprName}
use Rattle.xt_names.specs.declared.codes.Code.{Code}
use Rattle.xt_types.specs.declared.types.SeqType.{SeqType}
use Rattle.xt_syntax.specs.declared.queries.QueryVar.{QueryVar}
use Rattle.xt_syntax.specs.declared.queries.QueryFunction.{QueryFunction}
use Rattle.xt_syntax.specs.declared.queries.QueryParam.{QueryParam}
use Rattle.expr_names.specs.Names.{undeclared_in, expr_name}
use Rattle.expr_keys.specs.declared.tokens.Token.{Token}
use Rattle.expr_terms.specs.declared.raws.Raw.{Raw}
use Rattle.expr_rules.specs.ExprMeant.Names.{written_in}
use Rattle.expr_resolve.specs.declared.setting.Setting.{Setting}
use Rattle.expr_resolve.specs.Folds.{broken_of, expr_meant, type_broken, type_meant}
use Rattle.query_grammar.specs.declared.declared.Typed.{Typed}

-- the prefix of a name is declared
abbrev pub name_broken : Setting → Token → List Code
name_broken s name = undeclared_in s.prefixes.bound (written_in name)

-- a variable's name without a prefix has no uri
abbrev pub variable_name : Setting → Token → ExprName
variable_name s name = expr_name s.prefixes.bound [] (written_in name)

-- .. and a function's has the default one
abbrev pub function_name : Setting → Token → ExprName
function_name s name = expr_name s.prefixes.bound s.prefixes.function_default (written_in name)

unfoldable pub kind_broken : Setting → Option Raw → List Code
kind_broken s None = []
kind_broken s (Some kind) = type_broken s kind

abbrev pub kind_meant : Setting → Option Raw → Option SeqType
kind_meant s kind = option_map (type_meant s) kind

unfoldable pub value_broken : Setting → Option Raw → List Code
value_broken s None = []
value_broken s (Some value) = broken_of s value

-- a name and its type
abbrev pub typed_broken : Setting → Typed → List Code
typed_broken s v = name_broken s v.name ++ kind_broken s v.kind

abbrev pub param_meant : Setting → Typed → QueryParam
param_meant s v = record { name = variable_name s v.name; kind = kind_meant s v.kind }

abbrev pub params_broken : Setting → List Typed → List Code
params_broken s [] = []
params_broken s (p ∷ ps) = typed_broken s p ++ params_broken s ps

abbrev pub params_meant : Setting → List Typed → List QueryParam
params_meant s ps = map (param_meant s) ps

abbrev pub variable_broken : Setting → Typed → Option Raw → List Code
variable_broken s v value = typed_broken s v ++ value_broken s value

abbrev pub variable_meant : Setting → Typed → Option Raw → QueryVar
variable_meant s v value = record {
  name = variable_name s v.name;
  kind = kind_meant s v.kind;
  value = option_map (expr_meant s) value;
}

abbrev pub function_broken : Setting → Token → List Typed → Option Raw → Raw → List Code
function_broken s name params kind body =
    name_broken s name ++ (params_broken s params ++ (kind_broken s kind ++ broken_of s body))

abbrev pub function_meant : Setting → Token → List Typed → Option Raw → Raw → QueryFunction
function_meant s name params kind body = record {
  name = function_name s name;
  params = params_meant s params;
  kind = kind_meant s kind;
  body = expr_meant s body;
}
