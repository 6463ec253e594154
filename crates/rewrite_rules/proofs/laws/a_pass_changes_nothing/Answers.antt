use Rattle.rewrite_rules.proofs.PassesSame.{tidied_same}
use Rattle.rewrite_rules.proofs.laws.a_pass_changes_nothing.Goals as goal

pub returns : goal.returns
returns c = λ bound e p env b k. tidied_same p bound e env b k
