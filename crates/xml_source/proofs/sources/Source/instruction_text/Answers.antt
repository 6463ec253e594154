use Rattle.std.proofs.Common.{◌∙◌, length, ap, arith}
use Rattle.std.specs.Str.{chars}
use Rattle.doc_grammar.specs.Lexing.{instruction}
use Rattle.xml_source.proofs.AsideLemmas.{instruction_collects, run_then, run_stops, mark_then, instruction_closes, mark_is_text}
use Rattle.xml_source.proofs.sources.Source.instruction_text.Goals as goal

pub returns-then-not-eat-clause-reads : goal.returns-then-not-eat-clause-reads
returns-then-not-eat-clause-reads c = λ target. c.marks.invariant.same target ∙ run_then 63 (instruction target) (instruction_collects target) c.marks.text (chars c.take_run-run.result.now) _ c.take_run-run.ensures.run c.take_run-run.ensures.passes c.in_ok-push_str.ensures
    (run_stops 63 (instruction target) (instruction_collects target) _ _ c.take_run-run.ensures.ends c.if-not-eat.ensures)

pub returns-then-eat-clause-reads : goal.returns-then-eat-clause-reads
returns-then-eat-clause-reads c = λ target. c.marks.invariant.same target ∙ run_then 63 (instruction target) (instruction_collects target) c.marks.text (chars c.take_run-run.result.now) _ c.take_run-run.ensures.run c.take_run-run.ensures.passes c.in_ok-push_str.ensures
    (mark_then target _ c.if-not-eat.ensures ∙ instruction_closes target _ c.if-eat.ensures)

pub marks-preserved : goal.marks-preserved
marks-preserved c = record {
  same = λ target. c.marks.invariant.same target ∙ run_then 63 (instruction target) (instruction_collects target) c.marks.text (chars c.take_run-run.result.now) _ c.take_run-run.ensures.run c.take_run-run.ensures.passes c.in_ok-push_str.ensures
      (mark_then target _ c.if-not-eat.ensures ∙ mark_is_text target _ _ c.if-eat.ensures c.in_ok-push.ensures);
  shorter = let less = ap length c.if-not-eat.ensures in let same = ap length c.if-eat.ensures.0 in omega (arith, less, same, c.take_run-run.ensures.shorter, c.marks.invariant.shorter);
}
