use Rattle.pattern_syntax.proofs.NameLemmas.{lone_made}
use Rattle.pattern_syntax.proofs.names.lone_raw.Goals as goal

pub returns : goal.returns
returns c = let e = rw c.in-Some.is at c.pop.ensures.items in lone_made _ _ _ _ c.requires e c.lone_step.ensures
