-- The version, namespaces, boundary white space and options of a query that is printed (XQuery 1.0,
-- 4.1, 4.3, 4.12 and 4.16).
use Rattle.std.specs.Prelude.{ℕ, Bool, true, false, ◌&&◌, List, [], ◌∷◌, ◌++◌, codes}
use Rattle.std.specs.Prelude.{Option, Some, None, is_some, if◌then◌else◌}
use Rattle.std.specs.Str.{bytes_eq}
use Rattle.xt_names.specs.declared.names.Binding.{Binding}
use Rattle.xt_names.specs.declared.names.ExprName.{ExprName}
use Rattle.xt_types.specs.declared.axes.Axis.TheVariants.{Attribute as attribute}
use Rattle.xt_types.specs.declared.node_tests.NameTest.{NameTest}
use Rattle.xt_types.specs.declared.node_tests.SpaceRule.{SpaceRule}
use Rattle.xt_syntax.specs.declared.prefixes.Prefixes.{Prefixes}
use Rattle.expr_keys.specs.Tokens.{fits_word}
use Rattle.expr_keys.specs.declared.tokens.Token.{Token}
use Rattle.expr_keys.specs.declared.tokens.Token.TheVariants as token
use Rattle.expr_keys.specs.declared.productions.Class.TheVariants as class
use Rattle.expr_tokens.specs.Terms.{word_term}
use Rattle.expr_rules.specs.ExprMeant.Names.{written_in}
use Rattle.query_pages.specs.TokenTexts.Spellings.{token_text}
use Rattle.expr_raws.specs.PathRaws.Names.{no_codes, name_token, same_test, test_token}
use Rattle.query_grammar.specs.declared.declared.Declared.{Declared}
use Rattle.query_grammar.specs.declared.declared.Declared.TheVariants as declared
use Rattle.query_options.specs.Spaces.{space_broken, space_meant}
use Rattle.query_resolve.specs.QueryPrologs.Prefixes.{predeclared}
use Rattle.raw_tokens.specs.QueryTokens.Tokens.{declared_tokens}

-- a declaration as it is written, its tokens without the semicolon, and whether it can be printed
pub record DeclaredForm : Type 0 where
  pub raw : Declared
  pub tokens : List Token
  pub can : Bool

-- how names are resolved after these namespaces
abbrev pub prefixes_behind : List Binding → Prefixes
prefixes_behind bs = record {
  bound = bs ++ predeclared;
  element_default = [];
  function_default = codes "http://www.w3.org/2005/xpath-functions";
}

abbrev pub token_or : Option Token → Token
token_or None = token.EnclosedOpen
token_or (Some t) = t

-- a declaration without an expression or a type
abbrev pub short : Declared → Bool → DeclaredForm
short d can = record { raw = d; tokens = declared_tokens d; can = can }

-- xquery version "1.0"
abbrev pub version : DeclaredForm
version = short (declared.Version (codes "1.0")) true

-- the word writes the prefix
abbrev pub is_prefix_word : List ℕ → Token → Bool
is_prefix_word prefix t = fits_word t && bytes_eq (written_in t).local prefix

-- declare namespace p = "u"
abbrev pub namespace : Binding → DeclaredForm
namespace b = short (declared.Namespace (word_term b.prefix) b.uri)
    (is_prefix_word b.prefix (word_term b.prefix))

-- declare boundary-space preserve
abbrev pub preserved : DeclaredForm
preserved = short (declared.BoundarySpace true) true

-- the names of the options that have an effect
abbrev pub option_name : List ℕ → ExprName
option_name local = record { uri = codes "urn:xslt2xq"; local = local }

-- declare option p:n "t"
abbrev pub option : Prefixes → List ℕ → List ℕ → Bool → DeclaredForm
option p local text can = short
    (declared.Setting (token_or (name_token p.bound [] (option_name local))) text)
    (is_some (name_token p.bound [] (option_name local)) && can)

-- a rule of white space: a word, and a test as on an axis where a name without a prefix has no uri
abbrev pub rule_test : Prefixes → NameTest → List ℕ
rule_test p t = token_text (token_or (test_token class.NameTest p.bound [] attribute t))

abbrev pub rule_text : Prefixes → SpaceRule → List ℕ
rule_text p r =
    (if r.strip then codes "strip" else codes "preserve") ++ 32 ∷ rule_test p r.test

abbrev pub rules_text : Prefixes → List SpaceRule → List ℕ
rules_text p [] = []
rules_text p (r ∷ []) = rule_text p r
rules_text p (r ∷ q ∷ rs) = rule_text p r ++ 32 ∷ rules_text p (q ∷ rs)

abbrev pub same_truth : Bool → Bool → Bool
same_truth true b = b
same_truth false true = false
same_truth false false = true

abbrev pub same_rule : SpaceRule → SpaceRule → Bool
same_rule a b = same_truth a.strip b.strip && same_test a.test b.test

abbrev pub same_rules : List SpaceRule → List SpaceRule → Bool
same_rules [] [] = true
same_rules (a ∷ more) (b ∷ bs) = same_rule a b && same_rules more bs
same_rules _ _ = false

-- the text breaks no rule and means these
abbrev pub means_rules : List Binding → List ℕ → List SpaceRule → Bool
means_rules bound text rules =
    no_codes (space_broken bound text) && same_rules (space_meant bound text) rules

-- the option `space`, where there are rules
abbrev pub space_option : Prefixes → List SpaceRule → List DeclaredForm
space_option p [] = []
space_option p (r ∷ rs) = option p (codes "space") (rules_text p (r ∷ rs))
    (means_rules p.bound (rules_text p (r ∷ rs)) (r ∷ rs)) ∷ []

-- the option `declaration`, where the declaration is left out
abbrev pub omit_option : Prefixes → Bool → List DeclaredForm
omit_option p true = option p (codes "declaration") (codes "omit") true ∷ []
omit_option p false = []
