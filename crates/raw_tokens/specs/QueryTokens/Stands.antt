-- Whether a query is well formed: its names are names, its types and expressions are well formed,
-- and its declarations stand in order.
use Rattle.std.specs.Prelude.{Bool, true, ◌&&◌, List, [], ◌∷◌, Option, Some, None}
use Rattle.expr_keys.specs.Tokens.{fits_name, fits_word, fits_function}
use Rattle.expr_terms.specs.declared.raws.Raw.{Raw}
use Rattle.expr_keys.specs.declared.productions.Language.TheVariants.{Xquery as xquery}
use Rattle.expr_keys.specs.declared.productions.Nonterminal.TheVariants as place
use Rattle.query_grammar.specs.declared.declared.Typed.{Typed}
use Rattle.query_grammar.specs.declared.declared.Declared.{Declared}
use Rattle.query_grammar.specs.declared.declared.Declared.TheVariants as declared
use Rattle.query_grammar.specs.declared.declared.RawQuery.{RawQuery}
use Rattle.query_grammar.specs.Prolog.{is_ordered}
use Rattle.raw_tokens.specs.Stands.{stands_at, is_expr, is_type}

abbrev pub typing_stands : Option Raw → Bool
typing_stands None = true
typing_stands (Some k) = is_type xquery k

abbrev pub typed_stands : Typed → Bool
typed_stands v = fits_name v.name && typing_stands v.kind

abbrev pub params_stand : List Typed → Bool
params_stand [] = true
params_stand (p ∷ ps) = typed_stands p && params_stand ps

abbrev pub value_stands : Option Raw → Bool
value_stands None = true
value_stands (Some w) = stands_at xquery place.ExprSingle w []

abbrev pub declared_stands : Declared → Bool
declared_stands (declared.Namespace p u) = fits_word p
declared_stands (declared.Setting n t) = fits_name n
declared_stands (declared.Variable v w) = typed_stands v && value_stands w
declared_stands (declared.Function q ps k w) =
    fits_function q && (params_stand ps && (typing_stands k && is_expr xquery w))
declared_stands _ = true

abbrev pub prolog_stands : List Declared → Bool
prolog_stands [] = true
prolog_stands (d ∷ ds) = declared_stands d && prolog_stands ds

abbrev pub is_query : RawQuery → Bool
is_query q = is_ordered q.declared && (prolog_stands q.declared && is_expr xquery q.body)
