use Rattle.text_functions.proofs.JoinLemmas.{joined-nil, joined_turn}
use Rattle.text_functions.proofs.joins.joined.Goals as goal

pub loop-i-init : goal.loop-i-init
loop-i-init c = joined-nil _ _ c.new-made.ensures

pub loop-i-preserved : goal.loop-i-preserved
loop-i-preserved c =
    joined_turn c.args.separator.now c.args.items.now c.loop-i.i c.index-items-i.result c.loop-i.made _ c.loop-i-test.true c.index-items-i.is c.loop-i.invariant c.in_ok-put_next.ensures
