use Rattle.closed_texts.proofs.PatternCuts.Steps.{pattern_steps}
use Rattle.closed_texts.proofs.pattern_cuts.steps_of_patterns_are_read.Goals as goal

pub returns : goal.returns
returns c = λ ts v d h p. pattern_steps d h p
