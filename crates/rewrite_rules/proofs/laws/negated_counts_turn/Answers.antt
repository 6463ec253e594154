use Rattle.rewrite_rules.proofs.TestsTidy.{rule_4_tidies}
use Rattle.rewrite_rules.proofs.laws.negated_counts_turn.Goals as goal

pub returns : goal.returns
returns c = rule_4_tidies
