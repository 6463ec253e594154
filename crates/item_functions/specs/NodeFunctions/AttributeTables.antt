-- Tables of attributes.
use Rattle.std.specs.Prelude.{Bool, ◌&&◌}
use Rattle.std.specs.HashSet.{HashSet, contains}
use Rattle.std.specs.Str.{bytes_eq}
use Rattle.xt_tree.specs.declared.attributes.Attribute.{Attribute}
use Rattle.item_functions.specs.declared.node_functions.attribute_tables.AttributeKey.{AttributeKey}

abbrev pub key_of : Attribute → AttributeKey
key_of a = record { name = a.name; value = a.value }

abbrev pub same_key : AttributeKey → AttributeKey → Bool
same_key a b = (bytes_eq a.name.uri b.name.uri && bytes_eq a.name.local b.name.local) && bytes_eq a.value b.value

-- whether the table has an equal attribute
abbrev pub has_key : {S : Type 0} → HashSet AttributeKey S → AttributeKey → Bool
has_key table key = contains same_key table key
