use Rattle.std.proofs.Common.{◌∙◌, sym, ap}
use Rattle.doc_grammar.specs.RawNames.{RawTag, with_attribute}
use Rattle.xml_source.specs.View.{name_of}
use Rattle.doc_reader.specs.View.{attribute_of, tag_of}
use Rattle.xml_source.specs.declared.steps.Step.TheVariants.{On, Stopped}
use Rattle.doc_reader.proofs.TagLemmas.{no_attribute, no_quote_behind, attribute_ran, tag_pushed}
use Rattle.doc_reader.proofs.tags.attribute.Goals as goal

pub returns-in_default-clause-ran : goal.returns-in_default-clause-ran
returns-in_default-clause-ran c = λ st. no_attribute _ _ (tag_of c.args.tag.now) st c.requires.no_space c.requires.no_close c.requires.no_slash c.in_default.ensures.name

pub returns-in_default-equals-clause-ran : goal.returns-in_default-equals-clause-ran
returns-in_default-equals-clause-ran c = λ st.
    no_quote_behind _ _ _ (tag_of c.args.tag.now) (name_of c.in-Some.name) st c.in-Some.ensures.name (c.in_default-equals.ensures.assigns (tag_of c.args.tag.now) (name_of c.in-Some.name) st)

pub returns-in-Stopped-clause-ran : goal.returns-in-Stopped-clause-ran
returns-in-Stopped-clause-ran c = λ st.
    let t : RawTag = tag_of c.args.tag.now in
    attribute_ran (Stopped c.in-Stopped.stop) _ _ _ _ t t (name_of c.in-Some.name) c.in-Some-equals.quote c.value.new.value _ st c.in-Some.ensures.name (c.in-Some-equals.ensures.assigns t (name_of c.in-Some.name) st) c.clear.ensures
    (rw c.in-Stopped.is at (c.in_ok-value.ensures.ran t (name_of c.in-Some.name) st)) tt

pub returns-in_ok-push-in-On-clause-ran : goal.returns-in_ok-push-in-On-clause-ran
returns-in_ok-push-in-On-clause-ran c = λ st.
    let t : RawTag = tag_of c.args.tag.now in
    attribute_ran On _ _ _ _ t _ (name_of c.in-Some.name) c.in-Some-equals.quote c.value.new.value _ st c.in-Some.ensures.name (c.in-Some-equals.ensures.assigns t (name_of c.in-Some.name) st) c.clear.ensures
    (rw c.in-On.is at (c.in_ok-value.ensures.ran t (name_of c.in-Some.name) st))
    (ap (with_attribute t (name_of c.in-Some.name)) (sym c.in_ok-value-in-On.ensures) ∙ tag_pushed attribute_of (name_of c.args.tag.now.name) _ _ (record { name = c.in-Some.name; value = c.in_ok-value-in-On.value }) c.in_ok-push-in-On.ensures.items)
