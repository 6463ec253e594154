-- What names and name tests mean, and whether their prefixes are declared (XPath 2.0, 2.1.1 and 3.2.1.2).
use Rattle.std.specs.Prelude.{ℕ, List, [], ◌∷◌, if◌then◌else◌}
use Rattle.xt_names.specs.Allowed.{is_empty_text}
use Rattle.xt_names.specs.declared.names.Binding.{Binding}
use Rattle.xt_names.specs.declared.names.ExprName.{ExprName}
use Rattle.xt_names.specs.declared.names.Name.{Name}
use Rattle.xt_names.specs.declared.codes.Code.{Code}
use Rattle.xt_names.specs.declared.codes.Code.TheVariants.{QueryStatic}
use Rattle.xt_names.specs.declared.codes.QueryStaticCode.TheVariants.{XPST0081}
use Rattle.xt_types.specs.declared.node_tests.NameTest.{NameTest}
use Rattle.xt_types.specs.declared.node_tests.NameTest.TheVariants as name
use Rattle.expr_names.specs.declared.written.Written.{Written}
use Rattle.expr_names.specs.declared.written.WrittenTest.{WrittenTest}
use Rattle.expr_names.specs.declared.written.WrittenTest.TheVariants as written
use Rattle.xt_names.specs.ExprNames.{uri_of}

-- the uri of a name: `default` where it has no prefix
unfoldable pub uri_in : List Binding → List ℕ → Written → List ℕ
uri_in bound default w = if is_empty_text w.prefix then default else uri_of bound w.prefix

-- the rule that a prefix is declared
unfoldable pub undeclared : List Binding → List ℕ → List Code
undeclared bound prefix = if is_empty_text (uri_of bound prefix) then QueryStatic XPST0081 ∷ [] else []

unfoldable pub undeclared_in : List Binding → Written → List Code
undeclared_in bound w = if is_empty_text w.prefix then [] else undeclared bound w.prefix

abbrev pub expr_name : List Binding → List ℕ → Written → ExprName
expr_name bound default w = record { uri = uri_in bound default w; local = w.local }

-- a name that a node is to have
abbrev pub node_name : List Binding → List ℕ → Written → Name
node_name bound default w = record { prefix = w.prefix; uri = uri_in bound default w; local = w.local }

-- a name without a prefix has no uri here
unfoldable pub name_test : List Binding → WrittenTest → NameTest
name_test bound written.Any = name.Any
name_test bound (written.Prefix prefix) = name.Uri (uri_of bound prefix)
name_test bound (written.Local local) = name.Local local
name_test bound (written.Exact w) = name.Exact (expr_name bound [] w)

unfoldable pub test_broken : List Binding → WrittenTest → List Code
test_broken bound written.Any = []
test_broken bound (written.Prefix prefix) = undeclared bound prefix
test_broken bound (written.Local local) = []
test_broken bound (written.Exact w) = undeclared_in bound w

unfoldable pub default_name : List ℕ → ExprName → ExprName
default_name default n = if is_empty_text n.uri then record { uri = default; local = n.local } else n

-- a name without a uri has the default one
unfoldable pub default_in : List ℕ → NameTest → NameTest
default_in default name.Any = name.Any
default_in default (name.Uri uri) = name.Uri uri
default_in default (name.Local local) = name.Local local
default_in default (name.Exact n) = name.Exact (default_name default n)
