-- How names are resolved after the setters of a prolog (XQuery 1.0, 2.1.1, 4.3, 4.12 and 4.13).
use Rattle.std.specs.Prelude.{ℕ, List, [], ◌∷◌, ◌++◌, Bool, true, not, codes}
use Rattle.xt_names.specs.Allowed.{xml_uri}
use Rattle.xt_names.specs.declared.names.Binding.{Binding}
use Rattle.xt_syntax.specs.declared.prefixes.Prefixes.{Prefixes}
use Rattle.closed_queries.specs.declared.prolog_rules.setters.Setter.{Setter}
use Rattle.closed_queries.specs.declared.prolog_rules.setters.Setter.TheVariants as setter
use Rattle.xt_names.specs.ExprNames.{binding}

unfoldable pub binding_and : Setter → List Binding → List Binding
binding_and (setter.Namespace b) bs = b ∷ bs
binding_and _ bs = bs

-- the namespaces that are declared, in order
abbrev pub declared_bindings : List Setter → List Binding
declared_bindings [] = []
declared_bindings (s ∷ ss) = binding_and s (declared_bindings ss)

-- the namespaces that every query has
abbrev pub predeclared : List Binding
predeclared =
    binding (codes "xml") xml_uri
    ∷ binding (codes "xs") (codes "http://www.w3.org/2001/XMLSchema")
    ∷ binding (codes "xsi") (codes "http://www.w3.org/2001/XMLSchema-instance")
    ∷ binding (codes "fn") (codes "http://www.w3.org/2005/xpath-functions")
    ∷ binding (codes "local") (codes "http://www.w3.org/2005/xquery-local-functions")
    ∷ []

unfoldable pub element_or : Setter → List ℕ → List ℕ
element_or (setter.ElementDefault uri) other = uri
element_or _ other = other

-- the default uri of elements, which is the first one declared
abbrev pub element_default : List Setter → List ℕ
element_default [] = []
element_default (s ∷ ss) = element_or s (element_default ss)

unfoldable pub function_or : Setter → List ℕ → List ℕ
function_or (setter.FunctionDefault uri) other = uri
function_or _ other = other

-- .. and that of functions
abbrev pub function_default : List Setter → List ℕ
function_default [] = codes "http://www.w3.org/2005/xpath-functions"
function_default (s ∷ ss) = function_or s (function_default ss)

unfoldable pub strip_or : Setter → Bool → Bool
strip_or (setter.BoundarySpace preserve) other = not preserve
strip_or _ other = other

-- boundary white space is stripped unless it is declared to be preserved
abbrev pub is_stripped : List Setter → Bool
is_stripped [] = true
is_stripped (s ∷ ss) = strip_or s (is_stripped ss)

-- declared prefixes come before the others
abbrev pub prefixes_of : List Setter → Prefixes
prefixes_of ss = record {
  bound = declared_bindings ss ++ predeclared;
  element_default = element_default ss;
  function_default = function_default ss;
}
