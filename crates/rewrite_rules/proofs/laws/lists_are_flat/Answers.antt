use Rattle.rewrite_rules.proofs.ListsTidy.{rule_3_tidies}
use Rattle.rewrite_rules.proofs.laws.lists_are_flat.Goals as goal

pub returns : goal.returns
returns c = rule_3_tidies
