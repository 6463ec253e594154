use Rattle.std.proofs.Common.{◌++◌, sym, ◌∙◌, ap}
use Rattle.std.specs.Char.{encode_utf8}
use Rattle.std.specs.Str.{chars}
use Rattle.xt_atoms.specs.Lexical.{without_leading_white}
use Rattle.xt_atoms.proofs.TrimLemmas.{leading_more, leading_ends, leading_all}
use Rattle.xt_atoms.proofs.trims.without_leading_white.Goals as goal

pub loop-c-init : goal.loop-c-init
loop-c-init c = record {
  text = c.as_str-rest.utf8;
  utf8 = c.as_str-rest.utf8;
  same = c.as_str-rest.ensures;
  kept = ap (λ b. without_leading_white (chars b)) (c.as_str-rest.ensures ∙ c.chars-left.ensures.rest);
}

pub loop-c-preserved : goal.loop-c-preserved
loop-c-preserved c = record {
  text = c.as_str-rest-in-Some.utf8;
  utf8 = c.as_str-rest-in-Some.utf8;
  same = c.as_str-rest-in-Some.ensures;
  kept = leading_more _ _ _ c.in-Some.c c.loop-c.invariant.utf8
      (c.loop-c.invariant.same ∙ c.in-Some.ensures.steps.0 ∙ ap (λ b. encode_utf8 c.in-Some.c ++ b) (sym c.as_str-rest-in-Some.ensures))
      (sym c.is_white.ensures.value ∙ c.if-not-is_white.false) c.loop-c.invariant.kept;
}

pub returns-then-not-is_white : goal.returns-then-not-is_white
returns-then-not-is_white c = leading_ends _ _ _ c.in-Some.c c.loop-c.invariant.utf8
    (c.loop-c.invariant.same ∙ c.in-Some.ensures.steps.0) (sym c.is_white.ensures.value ∙ c.if-not-is_white.true) c.loop-c.invariant.kept

pub returns : goal.returns
returns c = leading_all _ _ (rw c.loop-c.invariant.same c.in_default.ensures.steps.0.0) c.loop-c.invariant.kept
