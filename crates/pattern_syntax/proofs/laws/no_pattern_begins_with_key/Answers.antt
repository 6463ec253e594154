use Rattle.pattern_syntax.proofs.KeyLemmas.{no_key}
use Rattle.pattern_syntax.proofs.laws.no_pattern_begins_with_key.Goals as goal

pub returns : goal.returns
returns c = no_key
