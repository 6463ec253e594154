use Rattle.closed_texts.proofs.PatternCuts.Cut.{step_spelled}
use Rattle.closed_texts.proofs.pattern_cuts.steps_are_expressions.Goals as goal

pub returns : goal.returns
returns c = λ ts v d. step_spelled d
