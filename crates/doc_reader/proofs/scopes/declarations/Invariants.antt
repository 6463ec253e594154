use Rattle.std.proofs.Common.{◌≡◌, ◌++◌, drop, map}
use Rattle.doc_grammar.specs.Scopes.{declarations}
use Rattle.doc_reader.specs.View.{attribute_of}
use Rattle.doc_reader.proofs.scopes.declarations.Given as goal

abbrev pub invariant-loop-attribute : goal.invariant-loop-attribute
invariant-loop-attribute l = l.declared ++ declarations (map attribute_of (drop l.attribute-index l.attributes)) ≡ declarations (map attribute_of l.attributes)
