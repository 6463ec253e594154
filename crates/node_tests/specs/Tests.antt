-- Which nodes pass a test (XPath 2.0, 3.2.1.2).
use Rattle.std.specs.Prelude.{Bool, true, false, ◌&&◌, List, ℕ, Option, Some, None}
use Rattle.std.specs.Str.{bytes_eq}
use Rattle.xt_names.specs.declared.names.Name.{Name}
use Rattle.xt_tree.specs.declared.trees.Tree.{Tree}
use Rattle.xt_tree.specs.declared.trees.Tree.TheVariants as tree
use Rattle.xt_tree.specs.Place.{Place, subtree_of}
use Rattle.xt_types.specs.declared.axes.Axis.{Axis}
use Rattle.xt_types.specs.declared.axes.Axis.TheVariants as axis
use Rattle.xt_types.specs.declared.node_tests.NameTest.{NameTest}
use Rattle.xt_types.specs.declared.node_tests.NameTest.TheVariants.{Any, Uri, Local, Exact}
use Rattle.xt_types.specs.declared.node_tests.Test.{Test}
use Rattle.xt_types.specs.declared.node_tests.Test.TheVariants as test

-- names are compared by uri and local part
unfoldable pub passes_name : NameTest → Name → Bool
passes_name Any name = true
passes_name (Uri uri) name = bytes_eq uri name.uri
passes_name (Local local) name = bytes_eq local name.local
passes_name (Exact wanted) name = bytes_eq wanted.uri name.uri && bytes_eq wanted.local name.local

-- an element with such a name
unfoldable pub passes_element : NameTest → Tree → Bool
passes_element names (tree.Elem name attrs kids) = passes_name names name
passes_element names t = false

-- an attribute with such a name
unfoldable pub passes_attribute : NameTest → Tree → Bool
passes_attribute names (tree.Attr name t) = passes_name names name
passes_attribute names t = false

-- Each axis has a principal kind of node: attributes on the attribute axis, and elements on the others. A name test means
-- a node of that kind with such a name.
unfoldable pub passes_principal : Axis → NameTest → Tree → Bool
passes_principal axis.Attribute names t = passes_attribute names t
passes_principal along names t = passes_element names t

unfoldable pub is_text : Tree → Bool
is_text (tree.Text t) = true
is_text t = false

unfoldable pub is_comment : Tree → Bool
is_comment (tree.Comment t) = true
is_comment t = false

unfoldable pub is_document : Tree → Bool
is_document (tree.Doc kids) = true
is_document t = false

unfoldable pub has_target : Option (List ℕ) → List ℕ → Bool
has_target None target = true
has_target (Some wanted) target = bytes_eq wanted target

-- a processing instruction, with this target where one is given
unfoldable pub passes_pi : Option (List ℕ) → Tree → Bool
passes_pi wanted (tree.Pi target t) = has_target wanted target
passes_pi wanted t = false

-- whether a node on the axis passes the test, by the tree below it, which for an attribute is that attribute alone
unfoldable pub passes_test : Axis → Test → Tree → Bool
passes_test axis (test.Named names) t = passes_principal axis names t
passes_test axis test.Node t = true
passes_test axis test.Text t = is_text t
passes_test axis test.Comment t = is_comment t
passes_test axis (test.Pi target) t = passes_pi target t
passes_test axis test.Doc t = is_document t
passes_test axis (test.Elem names) t = passes_element names t
passes_test axis (test.Attr names) t = passes_attribute names t

unfoldable pub tree_passes : Axis → Test → Option Tree → Bool
tree_passes axis wanted None = false
tree_passes axis wanted (Some t) = passes_test axis wanted t

-- the same of a node at its place
abbrev pub passes_at : Axis → Test → Place → Bool
passes_at axis wanted n = tree_passes axis wanted (subtree_of n)
