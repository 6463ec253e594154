-- The rules that the first part of a prolog breaks (XQuery 1.0, 4.3, 4.12 and 4.13).
use Rattle.std.specs.Prelude.{ℕ, List, [], ◌∷◌, ◌++◌, Bool, true, false, ◌||◌, codes, if◌then◌else◌}
use Rattle.std.specs.List.{list_any}
use Rattle.std.specs.Str.{bytes_eq}
use Rattle.xt_names.specs.Allowed.{xml_uri, xmlns_uri}
use Rattle.xt_names.specs.declared.names.Binding.{Binding}
use Rattle.xt_names.specs.declared.codes.Code.{Code}
use Rattle.xt_names.specs.declared.codes.Code.TheVariants.{QueryStatic}
use Rattle.xt_names.specs.declared.codes.QueryStaticCode.{QueryStaticCode}
use Rattle.xt_names.specs.declared.codes.QueryStaticCode.TheVariants.{XQST0033, XQST0066, XQST0068, XQST0070}
use Rattle.closed_queries.specs.declared.prolog_rules.seen.Seen.{Seen}
use Rattle.closed_queries.specs.declared.prolog_rules.setters.Setter.{Setter}
use Rattle.closed_queries.specs.declared.prolog_rules.setters.Setter.TheVariants.{Namespace, ElementDefault, FunctionDefault, BoundarySpace, Other}

-- nothing has been declared yet
abbrev pub nothing_seen : Seen
nothing_seen = record { prefixes = []; element_default = false; function_default = false; boundary_space = false }

-- the code, where the rule is broken
unfoldable pub broken_if : Bool → QueryStaticCode → List Code
broken_if broken code = if broken then QueryStatic code ∷ [] else []

abbrev pub has_prefix : List (List ℕ) → List ℕ → Bool
has_prefix prefixes prefix = list_any (bytes_eq prefix) prefixes

-- with this prefix too
abbrev pub with_prefix : List (List ℕ) → List ℕ → List (List ℕ)
with_prefix prefixes prefix = if has_prefix prefixes prefix then prefixes else prefixes ++ prefix ∷ []

-- the uri of xml or of xmlns
unfoldable pub is_kept_uri : List ℕ → Bool
is_kept_uri uri = bytes_eq uri xml_uri || bytes_eq uri xmlns_uri

-- xml or xmlns, or the uri of one
unfoldable pub is_kept_binding : Binding → Bool
is_kept_binding b = bytes_eq b.prefix (codes "xml") || (bytes_eq b.prefix (codes "xmlns") || is_kept_uri b.uri)

-- the rules of a default namespace
abbrev pub default_broken : Bool → List ℕ → List Code
default_broken is_declared uri = broken_if is_declared XQST0066 ++ broken_if (is_kept_uri uri) XQST0070

-- the rules that one declaration breaks after others
unfoldable pub setter_broken : Seen → Setter → List Code
setter_broken seen (Namespace b) = broken_if (has_prefix seen.prefixes b.prefix) XQST0033 ++ broken_if (is_kept_binding b) XQST0070
setter_broken seen (ElementDefault uri) = default_broken seen.element_default uri
setter_broken seen (FunctionDefault uri) = default_broken seen.function_default uri
setter_broken seen (BoundarySpace preserve) = broken_if seen.boundary_space XQST0068
setter_broken seen Other = []

unfoldable pub seen_behind : Seen → Setter → Seen
seen_behind seen (Namespace b) = record seen { prefixes = with_prefix seen.prefixes b.prefix }
seen_behind seen (ElementDefault uri) = record seen { element_default = true }
seen_behind seen (FunctionDefault uri) = record seen { function_default = true }
seen_behind seen (BoundarySpace preserve) = record seen { boundary_space = true }
seen_behind seen Other = seen

-- the rules that are broken, in reading order
abbrev pub setters_broken : Seen → List Setter → List Code
setters_broken seen [] = []
setters_broken seen (s ∷ ss) = setter_broken seen s ++ setters_broken (seen_behind seen s) ss
