use Rattle.transform_rows.proofs.Rows.{rows}
use Rattle.transform_rows.proofs.each_row_is_what_the_definitions_give.Goals as goal

pub returns : goal.returns
returns c = rows
