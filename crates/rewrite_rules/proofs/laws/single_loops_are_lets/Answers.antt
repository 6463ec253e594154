use Rattle.rewrite_rules.proofs.LoopsTidy.{rule_6_tidies}
use Rattle.rewrite_rules.proofs.laws.single_loops_are_lets.Goals as goal

pub returns : goal.returns
returns c = rule_6_tidies
