-- Texts of characters that XML allows, and names that XML and its namespaces allow.
use Rattle.std.specs.Prelude.{ℕ, List, Bool, true, not, ◌&&◌, Option, Some, None, codes}
use Rattle.std.specs.Str.{bytes_eq}
use Rattle.xt_names.specs.Allowed.{is_allowed_name, is_empty_text, xml_uri, xmlns_uri}
use Rattle.xt_names.specs.Classes.{is_ncname_text, is_xml_text}
use Rattle.xt_names.specs.declared.names.Binding.{Binding}
use Rattle.xt_names.specs.declared.names.ExprName.{ExprName}
use Rattle.xt_names.specs.declared.names.Name.{Name}
use Rattle.xt_types.specs.declared.node_tests.NameTest.{NameTest}
use Rattle.xt_types.specs.declared.node_tests.NameTest.TheVariants as name
use Rattle.xt_types.specs.declared.node_tests.Test.{Test}
use Rattle.xt_types.specs.declared.node_tests.Test.TheVariants.{Named, Node, Text, Comment, Pi, Doc, Elem, Attr}
use Rattle.xt_types.specs.declared.types.ItemType.{ItemType}
use Rattle.xt_types.specs.declared.types.ItemType.TheVariants as item
use Rattle.xt_types.specs.declared.types.SeqType.{SeqType}
use Rattle.xt_types.specs.declared.types.SeqType.TheVariants.{Empty, Of}

-- a name in an expression: it has a local part, and not the uri of xmlns
unfoldable pub is_sound_expr_name : ExprName → Bool
is_sound_expr_name n = is_ncname_text n.local && (is_xml_text n.uri && not (bytes_eq n.uri xmlns_uri))

unfoldable pub is_sound_name : Name → Bool
is_sound_name n = is_allowed_name n.prefix n.uri n.local && is_xml_text n.uri

-- an attribute without a uri is not named xmlns
unfoldable pub is_sound_attribute_name : Name → Bool
is_sound_attribute_name n = is_sound_name n && not (is_empty_text n.uri && bytes_eq n.local (codes "xmlns"))

unfoldable pub is_sound_name_test : NameTest → Bool
is_sound_name_test name.Any = true
is_sound_name_test (name.Uri uri) = is_xml_text uri
is_sound_name_test (name.Local local) = is_xml_text local
is_sound_name_test (name.Exact n) = is_sound_expr_name n

unfoldable pub is_sound_target : Option (List ℕ) → Bool
is_sound_target None = true
is_sound_target (Some target) = is_xml_text target

unfoldable pub is_sound_test : Test → Bool
is_sound_test (Named test) = is_sound_name_test test
is_sound_test Node = true
is_sound_test Text = true
is_sound_test Comment = true
is_sound_test (Pi target) = is_sound_target target
is_sound_test Doc = true
is_sound_test (Elem test) = is_sound_name_test test
is_sound_test (Attr test) = is_sound_name_test test

unfoldable pub is_sound_item : ItemType → Bool
is_sound_item item.Any = true
is_sound_item (item.Kind test) = is_sound_test test
is_sound_item (item.Atomic kind) = true

unfoldable pub is_sound_type : SeqType → Bool
is_sound_type Empty = true
is_sound_type (Of item count) = is_sound_item item

unfoldable pub is_sound_kind : Option SeqType → Bool
is_sound_kind None = true
is_sound_kind (Some kind) = is_sound_type kind

-- neither xml nor xmlns
unfoldable pub is_free_prefix : List ℕ → Bool
is_free_prefix prefix = is_xml_text prefix && (not (bytes_eq prefix (codes "xml")) && not (bytes_eq prefix (codes "xmlns")))

-- the uri of neither
unfoldable pub is_free_uri : List ℕ → Bool
is_free_uri uri = is_xml_text uri && (not (bytes_eq uri xml_uri) && not (bytes_eq uri xmlns_uri))

unfoldable pub is_free_binding : Binding → Bool
is_free_binding b = is_free_prefix b.prefix && is_free_uri b.uri
