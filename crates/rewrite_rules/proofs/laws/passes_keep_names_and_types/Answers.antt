use Rattle.rewrite_rules.proofs.HeadsSame.{passes_keep}
use Rattle.rewrite_rules.proofs.laws.passes_keep_names_and_types.Goals as goal

pub returns : goal.returns
returns c = λ q n. passes_keep n q
