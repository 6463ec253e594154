-- What a name stands for.
use Rattle.std.specs.Option.{option_map}
use Rattle.std.specs.Str.{chars}
use Rattle.doc_grammar.specs.RawNames.{RawName}
use Rattle.xml_source.specs.declared.names.RawName as raw

-- a name of the code, as characters
abbrev pub name_of : raw.RawName → RawName
name_of n = record { prefix = option_map (λ p. chars p.now) n.prefix; local = chars n.local.now }
