use Rattle.rewrite_rules.proofs.LogicTidy.{rule_8_tidies}
use Rattle.rewrite_rules.proofs.laws.decided_parts_go.Goals as goal

pub returns : goal.returns
returns c = rule_8_tidies
