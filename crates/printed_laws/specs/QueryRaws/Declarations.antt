-- The variables and functions of a query that is printed (XQuery 1.0, 4.14 and 4.15).
use Rattle.std.specs.Prelude.{Bool, true, ◌&&◌, List, [], ◌∷◌, ◌++◌, map, codes}
use Rattle.std.specs.Prelude.{Option, Some, None, option_map, is_some}
use Rattle.std.specs.List.{list_all}
use Rattle.xt_names.specs.declared.names.ExprName.{ExprName}
use Rattle.xt_types.specs.declared.types.SeqType.{SeqType}
use Rattle.xt_syntax.specs.declared.exprs.Expr.{Expr}
use Rattle.xt_syntax.specs.declared.prefixes.Prefixes.{Prefixes}
use Rattle.xt_syntax.specs.declared.queries.QueryVar.{QueryVar}
use Rattle.xt_syntax.specs.declared.queries.QueryFunction.{QueryFunction}
use Rattle.xt_syntax.specs.declared.queries.QueryParam.{QueryParam}
use Rattle.expr_keys.specs.declared.keys.Key.TheVariants as key
use Rattle.expr_keys.specs.declared.tokens.Token.{Token}
use Rattle.expr_keys.specs.declared.tokens.Token.TheVariants as token
use Rattle.expr_terms.specs.declared.raws.Raw.{Raw}
use Rattle.expr_raws.specs.PathRaws.Forms.{single, at, said}
use Rattle.expr_raws.specs.PathRaws.Names.{name_token, function_token}
use Rattle.expr_raws.specs.ControlRaws.Bindings.{typing, may, typing_tokens}
use Rattle.expr_raws.specs.Raws.{form_of, raw_of, tokens_of, is_printable}
use Rattle.query_grammar.specs.declared.declared.Declared.TheVariants as declared
use Rattle.query_grammar.specs.declared.declared.Typed.{Typed}
use Rattle.raw_tokens.specs.QueryTokens.Tokens.{behind_declare}
use Rattle.raw_laws.specs.CleanRaws.Keeps.{keeps_rules}
use Rattle.printed_laws.specs.QueryRaws.Prologs.{DeclaredForm, token_or}

-- the token of a variable or a parameter
abbrev pub variable_token : Prefixes → ExprName → Token
variable_token p n = token_or (name_token p.bound [] n)

abbrev pub typing_raw : Prefixes → Option SeqType → Option Raw
typing_raw p k = option_map (λ f. f.raw) (typing p k)

-- $v as T
abbrev pub typed : Prefixes → ExprName → Option SeqType → Typed
typed p n k = record { name = variable_token p n; kind = typing_raw p k }

abbrev pub typed_tokens : Prefixes → ExprName → Option SeqType → List Token
typed_tokens p n k = token.Key key.Dollar ∷ variable_token p n ∷ typing_tokens (typing p k) []

abbrev pub typed_can : Prefixes → ExprName → Option SeqType → Bool
typed_can p n k = is_some (name_token p.bound [] n) && may (typing p k)

-- an expression that can be printed and breaks no rule
abbrev pub is_clean : Prefixes → Expr → Bool
is_clean p e = is_printable p e && keeps_rules e

abbrev pub value_raw : Prefixes → Option Expr → Option Raw
value_raw p e = option_map (λ x. at single (form_of p x)) e

-- `external`, or := a
abbrev pub value_tokens : Prefixes → Option Expr → List Token
value_tokens p None = token.Name (codes "external") ∷ []
value_tokens p (Some e) = token.Key key.Assign ∷ said single (form_of p e) []

abbrev pub value_can : Prefixes → Option Expr → Bool
value_can p None = true
value_can p (Some e) = is_clean p e

-- declare variable $v as T := a
abbrev pub variable : Prefixes → QueryVar → DeclaredForm
variable p v = record {
  raw = declared.Variable (typed p v.name v.kind) (value_raw p v.value);
  tokens = behind_declare (codes "variable")
      (typed_tokens p v.name v.kind ++ value_tokens p v.value);
  can = typed_can p v.name v.kind && value_can p v.value;
}

abbrev pub params : Prefixes → List QueryParam → List Typed
params p xs = map (λ x. typed p x.name x.kind) xs

abbrev pub params_tokens : Prefixes → List QueryParam → List Token
params_tokens p [] = []
params_tokens p (x ∷ []) = typed_tokens p x.name x.kind
params_tokens p (x ∷ y ∷ xs) =
    typed_tokens p x.name x.kind ++ token.Key key.Comma ∷ params_tokens p (y ∷ xs)

abbrev pub params_can : Prefixes → List QueryParam → Bool
params_can p xs = list_all (λ x. typed_can p x.name x.kind) xs

abbrev pub named_by : Prefixes → ExprName → Token
named_by p n = token_or (function_token p.bound p.function_default n)

-- f($a as T, ..) as T
abbrev pub signature_tokens : Prefixes → QueryFunction → List Token
signature_tokens p f = named_by p f.name ∷ token.Key key.OpenParen
    ∷ (params_tokens p f.params ++ token.Key key.CloseParen ∷ typing_tokens (typing p f.kind) [])

-- declare function f($a as T, ..) as T { a }
abbrev pub function : Prefixes → QueryFunction → DeclaredForm
function p f = record {
  raw = declared.Function (named_by p f.name) (params p f.params) (typing_raw p f.kind)
      (raw_of p f.body);
  tokens = behind_declare (codes "function") (signature_tokens p f ++ token.Key key.OpenBrace
      ∷ (tokens_of p f.body ++ token.Key key.CloseBrace ∷ []));
  can = is_some (function_token p.bound p.function_default f.name)
      && (params_can p f.params && (may (typing p f.kind) && is_clean p f.body));
}
