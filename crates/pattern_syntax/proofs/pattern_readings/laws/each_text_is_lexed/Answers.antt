use Rattle.pattern_syntax.proofs.PatternReadings.WholeLemmas.{lexes}
use Rattle.pattern_syntax.proofs.pattern_readings.laws.each_text_is_lexed.Goals as goal

pub returns : goal.returns
returns c = lexes
