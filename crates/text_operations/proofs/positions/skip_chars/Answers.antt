use Rattle.std.proofs.Common.{ℕ, List, [], ◌++◌, sym, ap, ◌∙◌, arith, append_assoc}
use Rattle.std.specs.Char.{encode_utf8}
use Rattle.std.specs.Str.{chars}
use Rattle.text_operations.proofs.PositionLemmas.{kept-more, kept-end, kept-all}
use Rattle.text_operations.proofs.positions.skip_chars.Goals as goal

pub loop-skipped-init : goal.loop-skipped-init
loop-skipped-init c = record {
  text = c.as_str-rest.utf8;
  utf8 = c.as_str-rest.utf8;
  same = c.as_str-rest.ensures;
  few = omega arith;
  kept = ap chars (c.as_str-rest.ensures ∙ c.chars-left.ensures.rest);
  part = ([], sym (c.as_str-rest.ensures ∙ c.chars-left.ensures.rest));
}

pub loop-skipped-preserved : goal.loop-skipped-preserved
loop-skipped-preserved c =
    let step = c.loop-skipped.invariant.same ∙ c.in-Some.ensures.steps.0 ∙ ap (λ (b : List ℕ). encode_utf8 c.in-Some.field-0 ++ b) (sym c.as_str-rest-in-Some.ensures) in
    record {
      text = c.as_str-rest-in-Some.utf8;
      utf8 = c.as_str-rest-in-Some.utf8;
      same = c.as_str-rest-in-Some.ensures;
      few = omega arith;
      kept = kept-more c.args.text.now c.loop-skipped.rest.now c.as_str-rest-in-Some.result.now c.loop-skipped.skipped c.in-Some.field-0 c.loop-skipped.invariant.utf8 step c.loop-skipped.invariant.kept;
      part = (
        c.loop-skipped.invariant.part.0 ++ encode_utf8 c.in-Some.field-0,
        c.loop-skipped.invariant.part.1 ∙ ap (λ (b : List ℕ). c.loop-skipped.invariant.part.0 ++ b) step
            ∙ sym (append_assoc c.loop-skipped.invariant.part.0 (encode_utf8 c.in-Some.field-0) c.as_str-rest-in-Some.result.now),
      );
    }

pub returns-in-None : goal.returns-in-None
returns-in-None c = record {
  chars = kept-end c.args.text.now c.loop-skipped.rest.now c.loop-skipped.skipped c.args.count (rw c.loop-skipped.invariant.same c.in-None.ensures.steps.0.0) c.loop-skipped.invariant.few c.loop-skipped.invariant.kept;
  rest = c.loop-skipped.invariant.part;
}

pub returns : goal.returns
returns c = record {
  chars = kept-all c.args.text.now c.loop-skipped.rest.now c.loop-skipped.skipped c.args.count c.loop-skipped.invariant.few c.loop-skipped-test.false c.loop-skipped.invariant.kept;
  rest = c.loop-skipped.invariant.part;
}
