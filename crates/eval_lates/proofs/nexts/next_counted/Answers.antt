use Rattle.eval_lates.proofs.NextLemmas.{next_is}
use Rattle.eval_lates.proofs.nexts.next_counted.Goals as goal

pub returns : goal.returns
returns g c = next_is c.in_ok-item.item _ _ c.in_ok-item.ensures.ok c.in_ok-item.ensures.some
