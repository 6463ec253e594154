-- The names and types that parts mean; a prefix that is not declared has no uri here (XPath 2.0, 2.1.1).
use Rattle.std.specs.Prelude.{ℕ, List, [], Option}
use Rattle.xt_names.specs.declared.names.Binding.{Binding}
use Rattle.xt_names.specs.declared.names.ExprName.{ExprName}
use Rattle.xt_names.specs.declared.names.Name.{Name}
use Rattle.xt_names.specs.declared.kinds.AtomType.{AtomType}
use Rattle.expr_names.specs.XtTypes.declared.node_tests.NameTest.{NameTest}
use Rattle.expr_names.specs.XtTypes.declared.node_tests.NameTest.TheVariants as name
use Rattle.expr_names.specs.Names.{expr_name, node_name, name_test}
use Rattle.expr_names.specs.Types.{type_named, type_or_any}
use Rattle.expr_rules.specs.declared.expr_meant.meant.Meant.{Meant}
use Rattle.expr_rules.specs.declared.expr_meant.meant.Meant.TheVariants as meant
use Rattle.expr_rules.specs.ExprMeant.Names.{written_of, written_test_in}

-- the name of a variable, a function or a type
abbrev pub name_of : List Binding → List ℕ → Meant → ExprName
name_of bound default m = expr_name bound default (written_of m)

-- a name that a node is to have
abbrev pub node_name_of : List Binding → List ℕ → Meant → Name
node_name_of bound default m = node_name bound default (written_of m)

unfoldable pub name_test_of : List Binding → Meant → NameTest
name_test_of bound (meant.Token t) = name_test bound (written_test_in t)
name_test_of bound _ = name.Any

-- the atomic type that the part names, where it names one
abbrev pub named_type : List Binding → Meant → Option AtomType
named_type bound m = type_named (name_of bound [] m)

abbrev pub type_of : List Binding → Meant → AtomType
type_of bound m = type_or_any (named_type bound m)
