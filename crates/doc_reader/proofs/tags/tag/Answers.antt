use Rattle.std.proofs.Common.{◌∙◌, arith}
use Rattle.doc_grammar.specs.Machine.{tagged}
use Rattle.doc_reader.specs.View.{tag_of}
use Rattle.xml_source.specs.declared.steps.Step.TheVariants.{On, Stopped}
use Rattle.doc_reader.proofs.TagLemmas.{ends_tag, no_more, one_more}
use Rattle.doc_reader.proofs.tags.tag.Goals as goal

pub returns-then-is_at_end-clause-ran : goal.returns-then-is_at_end-clause-ran
returns-then-is_at_end-clause-ran c = λ st.
    c.attributes.invariant.same st ∙ ends_tag c.spaces-spaced.result _ _ c.spaces-spaced.ensures.spaces c.if-is_at_end.ensures (tag_of c.attributes.tag) st

pub returns-then-not-spaced-clause-ran : goal.returns-then-not-spaced-clause-ran
returns-then-not-spaced-clause-ran c = λ st.
    c.attributes.invariant.same st ∙ no_more _ _ c.if-not-spaced.ensures.spaces c.if-not-spaced.ensures.ends c.if-is_at_end.ensures (tag_of c.attributes.tag) st

pub attributes-preserved : goal.attributes-preserved
attributes-preserved c = record {
  same = λ st. one_more _ _ _ _ (tag_of c.attributes.tag) st (tagged (tag_of c.attribute.new.tag) st) On (c.attributes.invariant.same st) c.if-not-spaced.ensures.spaces (rw c.in-On.is at (c.in_ok-attribute.ensures.ran st));
  name = c.in_ok-attribute.ensures.name ∙ c.attributes.invariant.name;
  shorter = omega (arith, c.attributes.invariant.shorter, c.spaces-spaced.ensures.shorter, c.in_ok-attribute.ensures.shorter);
}

pub returns-in-Stopped-clause-ran : goal.returns-in-Stopped-clause-ran
returns-in-Stopped-clause-ran c = λ st.
    one_more _ _ _ _ (tag_of c.attributes.tag) st (tagged (tag_of c.attribute.new.tag) st) (Stopped c.in-Stopped.stop) (c.attributes.invariant.same st) c.if-not-spaced.ensures.spaces (rw c.in-Stopped.is at (c.in_ok-attribute.ensures.ran st))
