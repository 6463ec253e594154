use Rattle.rule_order.proofs.Greatest.{best_is}
use Rattle.rule_order.proofs.the_best_rule_is_the_greatest.Goals as goal

pub returns : goal.returns
returns c = best_is
