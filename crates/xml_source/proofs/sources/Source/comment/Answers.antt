use Rattle.std.proofs.Common.{◌∙◌, refl, length, ap, arith}
use Rattle.std.specs.Str.{chars}
use Rattle.xt_tree.specs.declared.trees.Tree.TheVariants.{Comment}
use Rattle.doc_grammar.specs.Lexing.{comment, comment_dashes}
use Rattle.xml_source.proofs.AsideLemmas.{comment_collects, run_then, run_stops, closes, dash_then, comment_dash_then, comment_dashes_then, dash_is_text, dash_stops}
use Rattle.xml_source.proofs.sources.Source.comment.Goals as goal

pub dashes-init : goal.dashes-init
dashes-init c = record { same = dash_then c.if-not-eat.ensures c.requires; shorter = let less = ap length c.if-not-eat.ensures in omega (arith, less) }

pub returns-then-not-eat-clause-reads : goal.returns-then-not-eat-clause-reads
returns-then-not-eat-clause-reads c = dash_stops _ c.if-not-eat.ensures

pub returns-then-not-eat-2-clause-reads : goal.returns-then-not-eat-2-clause-reads
returns-then-not-eat-2-clause-reads c =
    c.dashes.invariant.same ∙ run_then 45 comment comment_collects c.dashes.text (chars c.take_run-run.result.now) _ c.take_run-run.ensures.run c.take_run-run.ensures.passes c.in_ok-push_str.ensures
    (run_stops 45 comment comment_collects _ _ c.take_run-run.ensures.ends c.if-not-eat-2.ensures)

pub returns-then-eat-clause-reads : goal.returns-then-eat-clause-reads
returns-then-eat-clause-reads c =
    closes 62 (comment_dashes c.push_str.new.self) (Comment c.push_str.new.self) (λ d. refl) c.eat-then-eat.result c.eat-in-dashes-2.new.self c.eat-then-eat.new.self
    (c.dashes.invariant.same ∙ run_then 45 comment comment_collects c.dashes.text (chars c.take_run-run.result.now) _ c.take_run-run.ensures.run c.take_run-run.ensures.passes c.in_ok-push_str.ensures
    (comment_dash_then _ c.if-not-eat-2.ensures ∙ comment_dashes_then _ c.if-eat.ensures))
    c.eat-then-eat.ensures

pub dashes-preserved : goal.dashes-preserved
dashes-preserved c = record {
  same = c.dashes.invariant.same ∙ run_then 45 comment comment_collects c.dashes.text (chars c.take_run-run.result.now) _ c.take_run-run.ensures.run c.take_run-run.ensures.passes c.in_ok-push_str.ensures
      (comment_dash_then _ c.if-not-eat-2.ensures ∙ dash_is_text _ _ c.if-eat.ensures c.in_ok-push.ensures);
  shorter = let less = ap length c.if-not-eat-2.ensures in let same = ap length c.if-eat.ensures.0 in omega (arith, less, same, c.take_run-run.ensures.shorter, c.dashes.invariant.shorter);
}
