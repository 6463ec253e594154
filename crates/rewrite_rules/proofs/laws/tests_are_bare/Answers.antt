use Rattle.rewrite_rules.proofs.TestsTidy.{rule_5_tidies}
use Rattle.rewrite_rules.proofs.laws.tests_are_bare.Goals as goal

pub returns : goal.returns
returns c = rule_5_tidies
