use Rattle.rewrite_rules.proofs.PassesEnd.{tidied_calm}
use Rattle.rewrite_rules.proofs.laws.passes_nest_no_deeper.Goals as goal

pub returns : goal.returns
returns c = λ bound e. (tidied_calm bound e).flat
