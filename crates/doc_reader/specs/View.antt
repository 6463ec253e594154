-- What the values of start tags stand for.
use Rattle.std.specs.Prelude.{map}
use Rattle.doc_grammar.specs.RawNames.{RawAttribute, RawTag}
use Rattle.doc_reader.specs.declared.tags.RawAttribute as raw_attribute
use Rattle.doc_reader.specs.declared.tags.RawTag as raw_tag
use Rattle.xml_source.specs.View.{name_of}

abbrev pub attribute_of : raw_attribute.RawAttribute → RawAttribute
attribute_of a = record { name = name_of a.name; value = a.value }

abbrev pub tag_of : raw_tag.RawTag → RawTag
tag_of t = record { name = name_of t.name; attributes = map attribute_of t.attributes.items }
