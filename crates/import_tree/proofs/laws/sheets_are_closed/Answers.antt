use Rattle.import_tree.proofs.Closed.{sheets_closed}
use Rattle.import_tree.proofs.laws.sheets_are_closed.Goals as goal

pub returns : goal.returns
returns c = sheets_closed
