use Rattle.xpath_syntax.proofs.ExprReadings.ReadingLemmas.{text_once}
use Rattle.xpath_syntax.proofs.expr_readings.laws.spells_one.Goals as goal

pub returns : goal.returns
returns c = text_once
