use Rattle.command_words.proofs.WordLemmas.{strips}
use Rattle.command_words.proofs.pieces.behind.Goals as goal

pub returns : goal.returns
returns c = strips _ _ _ c.strip_prefix.ensures.cases
