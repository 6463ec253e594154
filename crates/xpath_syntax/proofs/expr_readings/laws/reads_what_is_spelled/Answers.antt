use Rattle.xpath_syntax.proofs.ExprReadings.ReadingLemmas.{text_reads, text_spelled}
use Rattle.xpath_syntax.proofs.expr_readings.laws.reads_what_is_spelled.Goals as goal

pub returns : goal.returns
returns c = λ s k text a. (text_reads s k text a, text_spelled s k text a)
