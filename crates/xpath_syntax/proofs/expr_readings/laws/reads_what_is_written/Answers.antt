use Rattle.xpath_syntax.proofs.ExprReadings.ReadingLemmas.{read_value, value_read, type_value, value_type}
use Rattle.xpath_syntax.proofs.expr_readings.laws.reads_what_is_written.Goals as goal

pub returns-clause-expressions : goal.returns-clause-expressions
returns-clause-expressions c = λ k text raw. ((λ w. read_value k text raw w.0 w.1), value_read k text raw)

pub returns-clause-types : goal.returns-clause-types
returns-clause-types c = λ k text raw. ((λ w. type_value k text raw w.0 w.1), value_type k text raw)
