use Rattle.translation_rows.proofs.SheetRows.{sheet_rows}
use Rattle.translation_rows.proofs.laws.each_stylesheet_has_the_query_that_the_definitions_give.Goals as goal

pub returns : goal.returns
returns c = sheet_rows
