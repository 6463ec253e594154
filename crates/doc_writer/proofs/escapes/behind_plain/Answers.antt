use Rattle.std.proofs.Common.{◌++◌, sym, ap, ◌∙◌}
use Rattle.std.specs.Char.{encode_utf8}
use Rattle.doc_writer.proofs.RunLemmas.{plain_none, plain_more}
use Rattle.doc_writer.proofs.escapes.behind_plain.Goals as goal

pub loop-c-init : goal.loop-c-init
loop-c-init g c = record {
  text = c.as_str-rest.utf8;
  utf8 = c.as_str-rest.utf8;
  same = c.as_str-rest.ensures;
  plain = plain_none g.E.Escape.written _ _ (c.as_str-rest.ensures ∙ c.chars-chars.ensures.rest);
}

pub loop-c-preserved : goal.loop-c-preserved
loop-c-preserved g c = record {
  text = c.as_str-rest-in-Some.utf8;
  utf8 = c.as_str-rest-in-Some.utf8;
  same = c.as_str-rest-in-Some.ensures;
  plain = plain_more g.E.Escape.written _ _ _ c.in-Some.c c.loop-c.invariant.plain c.loop-c.invariant.utf8
      (c.loop-c.invariant.same ∙ c.in-Some.ensures.steps.0 ∙ ap (λ b. encode_utf8 c.in-Some.c ++ b) (sym c.as_str-rest-in-Some.ensures))
      (c.is_plain.ensures.itself c.if-not-is_plain.false);
}
