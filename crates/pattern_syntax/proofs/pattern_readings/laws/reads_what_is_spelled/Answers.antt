use Rattle.pattern_syntax.proofs.PatternReadings.ReadingLemmas.{text_reads, text_spells}
use Rattle.pattern_syntax.proofs.pattern_readings.laws.reads_what_is_spelled.Goals as goal

pub returns : goal.returns
returns c = λ s k text ps u. (text_reads s k text ps, text_spells s k text ps u)
