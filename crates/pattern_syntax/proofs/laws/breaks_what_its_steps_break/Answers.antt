use Rattle.pattern_syntax.proofs.BrokenLemmas.{pattern_breaks}
use Rattle.pattern_syntax.proofs.laws.breaks_what_its_steps_break.Goals as goal

pub returns : goal.returns
returns c = pattern_breaks
