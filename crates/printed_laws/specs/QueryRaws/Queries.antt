-- A query as it is printed: the version, namespaces, that boundary white space is preserved,
-- options, variables, functions and the body (XQuery 1.0, 4 and A.1).
use Rattle.std.specs.Prelude.{Bool, ◌&&◌, List, [], ◌∷◌, ◌++◌, map}
use Rattle.std.specs.List.{list_all}
use Rattle.xt_syntax.specs.declared.prefixes.Prefixes.{Prefixes}
use Rattle.xt_syntax.specs.declared.queries.Query.{Query}
use Rattle.expr_keys.specs.declared.keys.Key.TheVariants as key
use Rattle.expr_keys.specs.declared.tokens.Token.{Token}
use Rattle.expr_keys.specs.declared.tokens.Token.TheVariants as token
use Rattle.expr_raws.specs.Raws.{raw_of, tokens_of}
use Rattle.query_grammar.specs.declared.declared.Declared.{Declared}
use Rattle.query_grammar.specs.declared.declared.RawQuery.{RawQuery}
use Rattle.printed_laws.specs.QueryRaws.Prologs.{DeclaredForm, prefixes_behind, version, namespace, preserved}
use Rattle.printed_laws.specs.QueryRaws.Prologs.{space_option, omit_option}
use Rattle.printed_laws.specs.QueryRaws.Declarations.{variable, function, is_clean}

-- how names are resolved in the query
abbrev pub prefixes_of : Query → Prefixes
prefixes_of q = prefixes_behind q.prefixes

-- the options
abbrev pub options : Query → List DeclaredForm
options q = space_option (prefixes_of q) q.space ++ omit_option (prefixes_of q) q.omit

-- the declarations after the setters
abbrev pub late : Query → List DeclaredForm
late q = options q ++ (map (λ v. variable (prefixes_of q) v) q.variables
    ++ map (λ f. function (prefixes_of q) f) q.functions)

-- the declarations, in order
abbrev pub declarations : Query → List DeclaredForm
declarations q = version ∷ (map (λ b. namespace b) q.prefixes ++ preserved ∷ late q)

abbrev pub raws : List DeclaredForm → List Declared
raws fs = map (λ f. f.raw) fs

-- the query as it is written
abbrev pub raw_query : Query → RawQuery
raw_query q = record { declared = raws (declarations q); body = raw_of (prefixes_of q) q.body }

abbrev pub prolog_tokens : List DeclaredForm → List Token → List Token
prolog_tokens [] ts = ts
prolog_tokens (f ∷ fs) ts = f.tokens ++ token.Key key.Semicolon ∷ prolog_tokens fs ts

-- .. and its tokens
abbrev pub query_tokens : Query → List Token
query_tokens q = prolog_tokens (declarations q) (tokens_of (prefixes_of q) q.body)

abbrev pub all_can : List DeclaredForm → Bool
all_can fs = list_all (λ f. f.can) fs

-- Whether it can be printed: prefixes are words, options and names have tokens, and expressions can
-- be printed and break no rule.
abbrev pub can_print : Query → Bool
can_print q = all_can (declarations q) && is_clean (prefixes_of q) q.body
