use Rattle.rewrite_rules.proofs.PassesEnd.{passes_end}
use Rattle.rewrite_rules.proofs.laws.passes_end.Goals as goal

pub returns : goal.returns
returns c = λ q n h. passes_end n q h
