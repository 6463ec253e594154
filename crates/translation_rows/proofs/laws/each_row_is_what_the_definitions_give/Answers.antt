use Rattle.translation_rows.proofs.Rows.{rows}
use Rattle.translation_rows.proofs.laws.each_row_is_what_the_definitions_give.Goals as goal

pub returns : goal.returns
returns c = rows
