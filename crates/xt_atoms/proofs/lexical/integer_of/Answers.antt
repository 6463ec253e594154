use Rattle.std.proofs.Common.{◌∙◌}
use Rattle.xt_atoms.proofs.IntegerLemmas.{parsed}
use Rattle.xt_atoms.proofs.lexical.integer_of.Goals as goal

pub returns : goal.returns
returns c = c.ok.ensures.value ∙ parsed _ _ _ c.trimmed-word.utf8 c.trimmed-word.ensures c.parse.ensures.value.0
