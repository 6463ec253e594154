use Rattle.doc_reader.specs.View.{attribute_of}
use Rattle.doc_reader.proofs.ScopeLemmas.{declared_preserved, declared_all}
use Rattle.doc_reader.proofs.scopes.declarations.Goals as goal

pub loop-attribute-preserved : goal.loop-attribute-preserved
loop-attribute-preserved c =
    declared_preserved attribute_of _ _ c.attribute-item.result _ _ _ c.loop-attribute-test.true c.attribute-item.is c.loop-attribute.invariant c.in_ok-declare.ensures

pub returns : goal.returns
returns c = declared_all attribute_of _ _ _ _ c.loop-attribute-test.false c.loop-attribute.invariant
