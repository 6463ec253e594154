use Rattle.std.proofs.Common.{◌++◌, ◌∷◌, [], length, refl, sym, ap, ◌∙◌, arith, append_assoc}
use Rattle.std.proofs.lemmas.Str.{IsUtf8-past_char}
use Rattle.std.specs.Str.{chars}
use Rattle.xml_source.proofs.NameLemmas.{taken_none, split_more, differs}
use Rattle.xml_source.proofs.sources.Source.eat_text.Goals as goal

pub loop-c-init : goal.loop-c-init
loop-c-init c =
    let rest = ap (λ i. i.rest.now) c.into_iter-c-iterator.ensures.into_iter_gives ∙ c.chars-c-items.ensures.rest in
    record { split = ap chars (sym rest); utf8 = rw rest c.utf8.text; same = refl; shorter = omega arith }

pub returns-then-not-eat-clause-eaten : goal.returns-then-not-eat-clause-eaten
returns-then-not-eat-clause-eaten c =
    differs _ _ _ _ _ _ _ c.in-Some.c c.loop-c.invariant.split c.loop-c.invariant.utf8 c.in-Some.ensures.steps.0 c.loop-c.invariant.same c.if-not-eat.ensures

pub returns-then-not-eat-clause-shorter : goal.returns-then-not-eat-clause-shorter
returns-then-not-eat-clause-shorter c = rw c.if-not-eat.ensures.0 c.loop-c.invariant.shorter

pub loop-c-preserved : goal.loop-c-preserved
loop-c-preserved c =
    let same = c.loop-c.invariant.same ∙ ap (λ x. c.loop-c.yielded ++ x) c.if-not-eat.ensures in
    record {
      split = split_more _ _ _ _ c.in-Some.c c.loop-c.invariant.split c.loop-c.invariant.utf8 c.in-Some.ensures.steps.0 ∙ sym (append_assoc c.loop-c.yielded (c.in-Some.c ∷ []) _);
      utf8 = IsUtf8-past_char _ _ c.in-Some.c c.loop-c.invariant.utf8 c.in-Some.ensures.steps.0;
      same = same ∙ sym (append_assoc c.loop-c.yielded (c.in-Some.c ∷ []) _);
      shorter = let less = ap length c.if-not-eat.ensures in omega (arith, less, c.loop-c.invariant.shorter);
    }

pub returns-clause-eaten : goal.returns-clause-eaten
returns-clause-eaten c =
    c.loop-c.invariant.same ∙ ap (λ x. x ++ c.loop-c.self) (sym (taken_none _ _ _ c.loop-c.invariant.split c.in-None.ensures.steps.0.0))

pub returns-clause-shorter : goal.returns-clause-shorter
returns-clause-shorter c = c.loop-c.invariant.shorter
