use Rattle.std.proofs.Common.{◌∙◌, arith, ap, sym, length}
use Rattle.doc_grammar.specs.Machine.{valued}
use Rattle.xml_source.specs.Reading.{reads}
use Rattle.doc_reader.proofs.ValueLemmas.{plain_part, value_ends, eaten_not, ends_not}
use Rattle.doc_reader.proofs.values.value.Goals as goal

pub returns-then-eat-clause-ran : goal.returns-then-eat-clause-ran
returns-then-eat-clause-ran c = λ t name st.
    c.parts.invariant.same t name st
    ∙ plain_part _ _ _ t name c.args.quote _ _ st c.plain_value-run.ensures.run c.plain_value-run.ensures.passes c.in_ok-push_str.ensures
    ∙ value_ends _ _ t name c.args.quote _ st c.if-eat.ensures

pub parts-preserved : goal.parts-preserved
parts-preserved c = record {
  same = λ t name st.
      let next = c.in-Ok.ensures.reads c.args.quote t name c.push_str.new.self st c.requires (eaten_not c.args.quote _ _ c.if-eat.ensures) (ends_not c.args.quote _ _ c.if-eat.ensures.0 c.plain_value-run.ensures.ends) in
      c.parts.invariant.same t name st
      ∙ plain_part _ _ _ t name c.args.quote _ _ st c.plain_value-run.ensures.run c.plain_value-run.ensures.passes c.in_ok-push_str.ensures
      ∙ ap (λ x. reads x (valued t name c.args.quote c.push_str.new.self st)) (sym c.if-eat.ensures.0)
      ∙ next
      ∙ ap (λ x. reads c.value_character.new.source (valued t name c.args.quote x st)) (sym c.in_ok-push-in-Ok.ensures);
  shorter = omega (arith, c.parts.invariant.shorter, c.plain_value-run.ensures.shorter, c.value_character.ensures.shorter, ap length c.if-eat.ensures.0);
}

pub returns-in-Err-clause-ran : goal.returns-in-Err-clause-ran
returns-in-Err-clause-ran c = λ t name st.
    let next = c.in-Err.ensures.reads c.args.quote t name c.push_str.new.self st c.requires (eaten_not c.args.quote _ _ c.if-eat.ensures) (ends_not c.args.quote _ _ c.if-eat.ensures.0 c.plain_value-run.ensures.ends) in
    c.parts.invariant.same t name st
    ∙ plain_part _ _ _ t name c.args.quote _ _ st c.plain_value-run.ensures.run c.plain_value-run.ensures.passes c.in_ok-push_str.ensures
    ∙ ap (λ x. reads x (valued t name c.args.quote c.push_str.new.self st)) (sym c.if-eat.ensures.0)
    ∙ next
