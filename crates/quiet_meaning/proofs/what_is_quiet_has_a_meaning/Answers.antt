use Rattle.quiet_meaning.proofs.FormLemmas.{all_are_alike}
use Rattle.quiet_meaning.proofs.what_is_quiet_has_a_meaning.Goals as goal

pub returns : goal.returns
returns c = all_are_alike
