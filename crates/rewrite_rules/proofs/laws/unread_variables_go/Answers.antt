use Rattle.rewrite_rules.proofs.LetsTidy.{rule_1_tidies}
use Rattle.rewrite_rules.proofs.laws.unread_variables_go.Goals as goal

pub returns : goal.returns
returns c = rule_1_tidies
