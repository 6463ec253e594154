-- Names and name tests as tokens under prefixes: the first token of the class that means the name.
use Rattle.std.specs.Prelude.{ℕ, Bool, true, false, ◌&&◌, List, [], ◌∷◌, Option, Some, None}
use Rattle.std.specs.Prelude.{if◌then◌else◌}
use Rattle.std.specs.Str.{bytes_eq}
use Rattle.xt_names.specs.Allowed.{is_empty_text}
use Rattle.xt_names.specs.declared.names.Binding.{Binding}
use Rattle.xt_names.specs.declared.names.ExprName.{ExprName}
use Rattle.xt_types.specs.declared.axes.Axis.{Axis}
use Rattle.xt_types.specs.declared.node_tests.NameTest.{NameTest}
use Rattle.xt_types.specs.declared.node_tests.NameTest.TheVariants as name
use Rattle.xt_names.specs.declared.codes.Code.{Code}
use Rattle.expr_names.specs.Names.{uri_in, name_test, undeclared_in, test_broken}
use Rattle.expr_keys.specs.Classes.{fits}
use Rattle.expr_keys.specs.declared.keys.Key.TheVariants as key
use Rattle.expr_keys.specs.declared.tokens.Token.{Token}
use Rattle.expr_keys.specs.declared.tokens.Token.TheVariants as token
use Rattle.expr_keys.specs.declared.productions.Class.{Class}
use Rattle.expr_keys.specs.declared.productions.Class.TheVariants as class
use Rattle.expr_tokens.specs.Terms.{word_term}
use Rattle.expr_rules.specs.ExprMeant.Names.{written_in, written_test_in}
use Rattle.expr_resolve.specs.ExprPrimaries.ExprPaths.Steps.{defaulted}
use Rattle.xt_names.specs.ExprNames.{same_name}

abbrev pub first_that : (Token → Bool) → List Token → Option Token
first_that f [] = None
first_that f (t ∷ ts) = if f t then Some t else first_that f ts

-- a token of the class, with the meaning
abbrev pub fitting : Class → (Token → Bool) → Token → Bool
fitting c f t = fits c t && f t

-- the local name with each prefix; the empty one is none
abbrev pub qualified : List Binding → List ℕ → List Token
qualified [] local = []
qualified (b ∷ bs) local =
    if is_empty_text b.prefix then qualified bs local
    else token.Qname b.prefix local ∷ qualified bs local

-- the local name without a prefix, and with each one
abbrev pub spellings : List Binding → List ℕ → List Token
spellings bound local = word_term local ∷ qualified bound local

abbrev pub no_codes : List Code → Bool
no_codes [] = true
no_codes (c ∷ cs) = false

-- whether the token means the name, where names without a prefix have this uri, and its prefix is
-- declared
abbrev pub names : List Binding → List ℕ → ExprName → Token → Bool
names bound default n t = (bytes_eq (uri_in bound default (written_in t)) n.uri
    && bytes_eq (written_in t).local n.local) && no_codes (undeclared_in bound (written_in t))

-- the token of a name of the class: of one that names functions, or of any
abbrev pub token_in : Class → List Binding → List ℕ → ExprName → Option Token
token_in c bound default n =
    first_that (fitting c (names bound default n)) (spellings bound n.local)

abbrev pub name_token : List Binding → List ℕ → ExprName → Option Token
name_token bound default n = token_in class.Name bound default n

abbrev pub function_token : List Binding → List ℕ → ExprName → Option Token
function_token bound default n = token_in class.Function bound default n

abbrev pub same_test : NameTest → NameTest → Bool
same_test name.Any name.Any = true
same_test (name.Uri u) (name.Uri v) = bytes_eq u v
same_test (name.Local m) (name.Local n) = bytes_eq m n
same_test (name.Exact m) (name.Exact n) = same_name m n
same_test _ _ = false

-- `p:*` with each prefix
abbrev pub any_locals : List Binding → List Token
any_locals [] = []
any_locals (b ∷ bs) =
    if is_empty_text b.prefix then any_locals bs else token.AnyLocal b.prefix ∷ any_locals bs

abbrev pub test_spellings : List Binding → NameTest → List Token
test_spellings bound name.Any = token.Key key.Star ∷ []
test_spellings bound (name.Uri u) = any_locals bound
test_spellings bound (name.Local n) = token.AnyPrefix n ∷ []
test_spellings bound (name.Exact n) = spellings bound n.local

-- whether the token means the name test on the axis
abbrev pub tests : List Binding → List ℕ → Axis → NameTest → Token → Bool
tests bound default on n t =
    same_test (defaulted default on (name_test bound (written_test_in t))) n
    && no_codes (test_broken bound (written_test_in t))

-- the token of the class that means the name test on the axis: any, or a name or `*`
abbrev pub test_token : Class → List Binding → List ℕ → Axis → NameTest → Option Token
test_token c bound default on n =
    first_that (fitting c (tests bound default on n)) (test_spellings bound n)
