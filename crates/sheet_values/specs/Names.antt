-- Names in attributes of a stylesheet (XSLT 2.0, 5.1; Namespaces in XML 1.0, 4).
use Rattle.std.specs.Prelude.{ℕ, List, [], ◌∷◌, ◌++◌, Bool, ◌||◌, Option, Some, None, codes}
use Rattle.std.specs.Prelude.{if◌then◌else◌}
use Rattle.std.specs.Str.{bytes_eq}
use Rattle.xt_names.specs.Allowed.{is_empty_text}
use Rattle.xt_names.specs.declared.names.Binding.{Binding}
use Rattle.xt_names.specs.declared.names.ExprName.{ExprName}
use Rattle.xt_names.specs.declared.codes.Code.{Code}
use Rattle.xt_names.specs.declared.codes.Code.TheVariants.{SheetStatic}
use Rattle.xt_names.specs.declared.codes.SheetStaticCode.{SheetStaticCode}
use Rattle.xt_names.specs.declared.codes.SheetStaticCode.TheVariants.{XTSE0020, XTSE0080, XTSE0740}
use Rattle.expr_names.specs.Names.{undeclared_in, expr_name}
use Rattle.expr_names.specs.declared.written.Written.{Written}
use Rattle.expr_names.specs.declared.written.WrittenTest.{WrittenTest}
use Rattle.expr_names.specs.declared.written.WrittenTest.TheVariants as test
use Rattle.query_options.specs.Spaces.{written_test}
use Rattle.sheet_values.specs.Rules.{broken, as_prefix}

abbrev pub exact_of : Option WrittenTest → Option Written
exact_of None = None
exact_of (Some test.Any) = None
exact_of (Some (test.Prefix prefix)) = None
exact_of (Some (test.Local local)) = None
exact_of (Some (test.Exact w)) = Some w

-- the QName that a text writes, where it writes one: `n` or `p:n`
unfoldable pub written_name : List ℕ → Option Written
written_name text = exact_of (written_test text)

-- a name without a prefix has no uri; a text that writes none means the name of no characters
unfoldable pub name_meant : List Binding → Option Written → ExprName
name_meant bound None = record { uri = []; local = [] }
name_meant bound (Some w) = expr_name bound [] w

-- the text writes a name, and its prefix is declared
unfoldable pub name_broken : SheetStaticCode → List Binding → Option Written → List Code
name_broken code bound None = SheetStatic code ∷ []
name_broken code bound (Some w) = as_prefix (undeclared_in bound w)

-- a name of something that is not declared by it
abbrev pub qname_faults : List Binding → List ℕ → List Code
qname_faults bound text = name_broken XTSE0020 bound (written_name text)

abbrev pub qname_value : List Binding → List ℕ → ExprName
qname_value bound text = name_meant bound (written_name text)

-- the namespaces of XSLT, of XPath's functions, of XML, of schemas and of their instances (3.2)
unfoldable pub is_reserved : List ℕ → Bool
is_reserved uri =
    bytes_eq uri (codes "http://www.w3.org/1999/XSL/Transform")
    || bytes_eq uri (codes "http://www.w3.org/2005/xpath-functions")
    || bytes_eq uri (codes "http://www.w3.org/XML/1998/namespace")
    || bytes_eq uri (codes "http://www.w3.org/2001/XMLSchema")
    || bytes_eq uri (codes "http://www.w3.org/2001/XMLSchema-instance")

-- what is declared is in none of them
abbrev pub reserved_broken : ExprName → List Code
reserved_broken name = broken XTSE0080 (is_reserved name.uri)

abbrev pub declared_broken : SheetStaticCode → List Binding → Option Written → List Code
declared_broken code bound w = name_broken code bound w ++ reserved_broken (name_meant bound w)

-- the name of what a declaration declares, with the code of a text that is no name
abbrev pub declared_faults : SheetStaticCode → List Binding → List ℕ → List Code
declared_faults code bound text = declared_broken code bound (written_name text)

-- a function's name has a prefix (10.3)
unfoldable pub prefix_broken : Option Written → List Code
prefix_broken None = []
prefix_broken (Some w) = broken XTSE0740 (is_empty_text w.prefix)

abbrev pub function_faults : List Binding → List ℕ → List Code
function_faults bound text =
    prefix_broken (written_name text) ++ declared_faults XTSE0020 bound text
