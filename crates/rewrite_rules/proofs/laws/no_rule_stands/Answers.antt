use Rattle.rewrite_rules.proofs.NoneStands.{passes_tidy}
use Rattle.rewrite_rules.proofs.laws.no_rule_stands.Goals as goal

pub returns : goal.returns
returns c = λ q n h. passes_tidy q n h
