use Rattle.rewrite_rules.proofs.LetsTidy.{rule_7_tidies}
use Rattle.rewrite_rules.proofs.laws.copies_go.Goals as goal

pub returns : goal.returns
returns c = rule_7_tidies
