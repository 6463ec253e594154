use Rattle.std.proofs.Common.{◌≡◌, drop, map}
use Rattle.doc_grammar.specs.Scopes.{named_attributes, behind_named}
use Rattle.doc_reader.specs.View.{attribute_of}
use Rattle.doc_reader.proofs.scopes.named_attributes.Given as goal

abbrev pub invariant-loop-attribute : goal.invariant-loop-attribute
invariant-loop-attribute l = behind_named l.named (named_attributes l.scope (map attribute_of (drop l.attribute-index l.attributes))) ≡ named_attributes l.scope (map attribute_of l.attributes)
