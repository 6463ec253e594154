use Rattle.doc_reader.specs.View.{attribute_of}
use Rattle.doc_reader.proofs.ScopeLemmas.{named_preserved, named_refused, named_all}
use Rattle.doc_reader.proofs.scopes.named_attributes.Goals as goal

pub returns-then-not-branch : goal.returns-then-not-branch
returns-then-not-branch c =
    named_refused attribute_of _ _ _ c.attribute-item.result _ _ c.loop-attribute-test.true c.attribute-item.is c.loop-attribute.invariant (rw c.if-not-branch.true at c.in_ok-name_one.ensures)

pub loop-attribute-preserved : goal.loop-attribute-preserved
loop-attribute-preserved c =
    named_preserved attribute_of _ _ _ c.attribute-item.result _ _ _ c.loop-attribute-test.true c.attribute-item.is c.loop-attribute.invariant (rw c.if-not-branch.false at c.in_ok-name_one.ensures)

pub returns : goal.returns
returns c = named_all attribute_of _ _ _ _ _ c.loop-attribute-test.false c.loop-attribute.invariant
