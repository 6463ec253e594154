use Rattle.std.proofs.Common.{sym, ◌∙◌}
use Rattle.expr_names.proofs.TableLemmas.{are_new-start, are_new-turn}
use Rattle.expr_names.proofs.doubles.names_differ_by_table.Goals as goal

pub loop-name-init : goal.loop-name-init
loop-name-init c = are_new-start c.in_ok-seen.seen c.args.names.now c.in_ok-seen.ensures.empty

pub loop-name-preserved : goal.loop-name-preserved
loop-name-preserved c =
    sym (are_new-turn c.loop-name.seen c.put_name.new.seen c.args.names.now c.loop-name.name-index c.name-item.result
    c.loop-name-test.true c.name-item.is (sym c.in_ok-put_name.ensures.added ∙ c.if-not-branch.false) c.in_ok-put_name.ensures.keys)
    ∙ c.loop-name.invariant
