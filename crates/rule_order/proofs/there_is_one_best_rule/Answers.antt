use Rattle.rule_order.proofs.Greatest.{one_best}
use Rattle.rule_order.proofs.there_is_one_best_rule.Goals as goal

pub returns : goal.returns
returns c = one_best
