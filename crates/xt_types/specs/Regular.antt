-- Tests and types of the form that XPath 2.0, 2.5.3 and 3.2.1.2 give them.
use Rattle.std.specs.Prelude.{Bool, true, false, not, ◌&&◌}
use Rattle.xt_names.specs.Allowed.{is_empty_text}
use Rattle.xt_types.specs.declared.node_tests.NameTest.{NameTest}
use Rattle.xt_types.specs.declared.node_tests.NameTest.TheVariants as name
use Rattle.xt_types.specs.declared.node_tests.Test.{Test}
use Rattle.xt_types.specs.declared.node_tests.Test.TheVariants.{Named, Node, Text, Comment, Pi, Doc, Elem, Attr}
use Rattle.xt_types.specs.declared.types.ItemType.{ItemType}
use Rattle.xt_types.specs.declared.types.ItemType.TheVariants as item
use Rattle.xt_types.specs.declared.types.SeqType.{SeqType}
use Rattle.xt_types.specs.declared.types.SeqType.TheVariants.{Empty, Of}

-- `p:*` has a uri
unfoldable pub is_regular_name_test : NameTest → Bool
is_regular_name_test name.Any = true
is_regular_name_test (name.Uri uri) = not (is_empty_text uri)
is_regular_name_test (name.Local local) = true
is_regular_name_test (name.Exact n) = true

-- a name or `*`, as `element(..)` and `attribute(..)` have it
unfoldable pub is_kind_name : NameTest → Bool
is_kind_name name.Any = true
is_kind_name (name.Uri uri) = false
is_kind_name (name.Local local) = false
is_kind_name (name.Exact n) = true

-- the test of a step
unfoldable pub is_regular_test : Test → Bool
is_regular_test (Named test) = is_regular_name_test test
is_regular_test Node = true
is_regular_test Text = true
is_regular_test Comment = true
is_regular_test (Pi target) = true
is_regular_test Doc = true
is_regular_test (Elem test) = is_kind_name test
is_regular_test (Attr test) = is_kind_name test

unfoldable pub is_named : Test → Bool
is_named (Named test) = true
is_named Node = false
is_named Text = false
is_named Comment = false
is_named (Pi target) = false
is_named Doc = false
is_named (Elem test) = false
is_named (Attr test) = false

-- a kind in a type is no name test
unfoldable pub is_regular_item : ItemType → Bool
is_regular_item item.Any = true
is_regular_item (item.Kind test) = not (is_named test) && is_regular_test test
is_regular_item (item.Atomic kind) = true

unfoldable pub is_regular_type : SeqType → Bool
is_regular_type Empty = true
is_regular_type (Of item count) = is_regular_item item
