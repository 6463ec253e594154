use Rattle.std.proofs.Common.{◌++◌, [], ◌∙◌, refl, sym, ap, length, arith, append-nil}
use Rattle.std.specs.Str.{chars}
use Rattle.doc_grammar.specs.Lexing.{section}
use Rattle.xml_source.proofs.AsideLemmas.{section_collects, run_then, run_stops, open_then, open_stops, section_bracket_then, added}
use Rattle.xml_source.proofs.sources.Source.section.Goals as goal

pub brackets-init : goal.brackets-init
brackets-init c = record { more = []; text = sym (append-nil c.args.text.now); same = open_then _ c.if-not-eat_text.ensures.eaten; shorter = c.if-not-eat_text.ensures.shorter }

pub returns-then-not-eat_text-clause-reads : goal.returns-then-not-eat_text-clause-reads
returns-then-not-eat_text-clause-reads c = open_stops c.if-not-eat_text.ensures.eaten

pub returns-then-not-eat-clause-reads : goal.returns-then-not-eat-clause-reads
returns-then-not-eat-clause-reads c =
    c.brackets.invariant.same ∙ run_then 93 section section_collects c.brackets.invariant.more (chars c.take_run-run.result.now) _ c.take_run-run.ensures.run c.take_run-run.ensures.passes refl
    (run_stops 93 section section_collects _ _ c.take_run-run.ensures.ends c.if-not-eat.ensures)

pub returns-then-branch-clause-reads : goal.returns-then-branch-clause-reads
returns-then-branch-clause-reads c =
    let run = chars c.take_run-run.result.now in
    let found = rw c.if-branch.true at c.in_ok-brackets.ensures.reads in (
      (c.brackets.invariant.more ++ run) ++ found.0,
      c.brackets.invariant.same ∙ run_then 93 section section_collects c.brackets.invariant.more run _ c.take_run-run.ensures.run c.take_run-run.ensures.passes refl
          (section_bracket_then _ c.if-not-eat.ensures ∙ found.2 _),
      added c.args.text.now c.brackets.invariant.more run found.0 c.brackets.text c.push_str.new.self _ c.brackets.invariant.text c.in_ok-push_str.ensures found.1,
    )

pub brackets-preserved : goal.brackets-preserved
brackets-preserved c =
    let run = chars c.take_run-run.result.now in
    let found = rw c.if-branch.false at c.in_ok-brackets.ensures.reads in
    record {
      more = (c.brackets.invariant.more ++ run) ++ found.0;
      text = added c.args.text.now c.brackets.invariant.more run found.0 c.brackets.text c.push_str.new.self _ c.brackets.invariant.text c.in_ok-push_str.ensures found.1;
      same = c.brackets.invariant.same ∙ run_then 93 section section_collects c.brackets.invariant.more run _ c.take_run-run.ensures.run c.take_run-run.ensures.passes refl
          (section_bracket_then _ c.if-not-eat.ensures ∙ found.2 _);
      shorter = let less = ap length c.if-not-eat.ensures in omega (arith, less, c.in_ok-brackets.ensures.shorter, c.take_run-run.ensures.shorter, c.brackets.invariant.shorter);
    }
