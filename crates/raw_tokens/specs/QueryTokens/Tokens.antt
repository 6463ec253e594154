-- The tokens that spell a query: its declarations, each with a semicolon after it, and its body.
use Rattle.std.specs.Prelude.{ℕ, Bool, codes, if◌then◌else◌}
use Rattle.std.specs.Prelude.{List, [], ◌∷◌, ◌++◌, Option, Some, None}
use Rattle.expr_keys.specs.declared.keys.Key.TheVariants as key
use Rattle.expr_keys.specs.declared.tokens.Token.{Token}
use Rattle.expr_keys.specs.declared.tokens.Token.TheVariants as token
use Rattle.expr_terms.specs.declared.raws.Raw.{Raw}
use Rattle.expr_keys.specs.declared.productions.Nonterminal.TheVariants as place
use Rattle.query_grammar.specs.declared.declared.Typed.{Typed}
use Rattle.query_grammar.specs.declared.declared.Declared.{Declared}
use Rattle.query_grammar.specs.declared.declared.Declared.TheVariants as declared
use Rattle.query_grammar.specs.declared.declared.RawQuery.{RawQuery}
use Rattle.raw_tokens.specs.Tokens.{tokens_at, tokens_of, type_tokens_of}

-- what stands behind `declare`
abbrev pub behind_declare : List ℕ → List Token → List Token
behind_declare second more = token.Name (codes "declare") ∷ token.Name second ∷ more

abbrev pub typing_tokens : Option Raw → List Token
typing_tokens None = []
typing_tokens (Some k) = token.Key key.AsWord ∷ type_tokens_of k

abbrev pub typed_tokens : Typed → List Token
typed_tokens v = token.Key key.Dollar ∷ v.name ∷ typing_tokens v.kind

abbrev pub param_tokens : List Typed → List Token
param_tokens [] = []
param_tokens (p ∷ []) = typed_tokens p
param_tokens (p ∷ q ∷ ps) = typed_tokens p ++ token.Key key.Comma ∷ param_tokens (q ∷ ps)

abbrev pub signature_tokens : Token → List Typed → Option Raw → List Token
signature_tokens q ps k = q ∷ token.Key key.OpenParen
    ∷ (param_tokens ps ++ token.Key key.CloseParen ∷ typing_tokens k)

abbrev pub value_tokens : Option Raw → List Token
value_tokens None = token.Name (codes "external") ∷ []
value_tokens (Some w) = token.Key key.Assign ∷ tokens_at place.ExprSingle w []

abbrev pub space_word : Bool → List ℕ
space_word b = if b then codes "preserve" else codes "strip"

-- a declaration without its semicolon
abbrev pub declared_tokens : Declared → List Token
declared_tokens (declared.Version t) =
    token.Name (codes "xquery") ∷ token.Name (codes "version") ∷ token.Quoted t ∷ []
declared_tokens (declared.Namespace p u) =
    token.Name (codes "declare") ∷ token.Key key.NamespaceWord
    ∷ p ∷ token.Key key.Equal ∷ token.Quoted u ∷ []
declared_tokens (declared.ElementDefault u) = behind_declare (codes "default")
    (token.Key key.ElementWord ∷ token.Key key.NamespaceWord ∷ token.Quoted u ∷ [])
declared_tokens (declared.FunctionDefault u) = behind_declare (codes "default")
    (token.Name (codes "function") ∷ token.Key key.NamespaceWord ∷ token.Quoted u ∷ [])
declared_tokens (declared.BoundarySpace b) = behind_declare (codes "boundary-space")
    (token.Name (space_word b) ∷ [])
declared_tokens declared.Setter = behind_declare (codes "ordering")
    (token.Name (codes "ordered") ∷ [])
declared_tokens (declared.Setting n t) = behind_declare (codes "option")
    (n ∷ token.Quoted t ∷ [])
declared_tokens (declared.Variable v w) = behind_declare (codes "variable")
    (typed_tokens v ++ value_tokens w)
declared_tokens (declared.Function q ps k w) = behind_declare (codes "function")
    (signature_tokens q ps k ++ token.Key key.OpenBrace
    ∷ (tokens_of w ++ token.Key key.CloseBrace ∷ []))

abbrev pub prolog_tokens : List Declared → List Token → List Token
prolog_tokens [] ts = ts
prolog_tokens (d ∷ ds) ts = declared_tokens d ++ token.Key key.Semicolon ∷ prolog_tokens ds ts

-- the tokens that spell the query
abbrev pub query_tokens : RawQuery → List Token
query_tokens q = prolog_tokens q.declared (tokens_of q.body)
