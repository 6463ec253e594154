use Rattle.std.proofs.Common.{sym, ◌∙◌}
use Rattle.command_words.proofs.TableLemmas.{are_new-start, are_new-turn, are_new-end}
use Rattle.command_words.proofs.different.are_different.Goals as goal

pub loop-text-init : goal.loop-text-init
loop-text-init c = are_new-start c.in_ok-seen.seen c.args.texts.now c.in_ok-seen.ensures.empty

pub loop-text-preserved : goal.loop-text-preserved
loop-text-preserved c =
    sym (are_new-turn c.loop-text.seen c.put_text.new.seen c.args.texts.now c.loop-text.text-index c.text-item.result
    c.loop-text-test.true c.text-item.is (sym c.in_ok-put_text.ensures.added ∙ c.if-not-branch.false) c.in_ok-put_text.ensures.texts)
    ∙ c.loop-text.invariant

pub returns-then-not-branch : goal.returns-then-not-branch
returns-then-not-branch c =
    sym (are_new-end c.loop-text.seen c.args.texts.now c.loop-text.text-index c.text-item.result
    c.loop-text-test.true c.text-item.is (sym c.in_ok-put_text.ensures.added ∙ c.if-not-branch.true))
    ∙ c.loop-text.invariant
