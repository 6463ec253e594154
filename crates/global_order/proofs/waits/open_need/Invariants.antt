use Rattle.global_order.proofs.WaitLemmas.{OpenNeed}
use Rattle.global_order.proofs.waits.open_need.Given as goal

abbrev pub invariant-loop-need : goal.invariant-loop-need
invariant-loop-need l = OpenNeed l.marks l.needs l.need-index
