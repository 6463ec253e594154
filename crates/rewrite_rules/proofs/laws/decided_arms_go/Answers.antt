use Rattle.rewrite_rules.proofs.ChoicesTidy.{rule_2_tidies}
use Rattle.rewrite_rules.proofs.laws.decided_arms_go.Goals as goal

pub returns : goal.returns
returns c = rule_2_tidies
