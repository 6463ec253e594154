use Rattle.import_tree.proofs.ClosedStylesheets.Loaded.{loaded_closed}
use Rattle.import_tree.proofs.closed_stylesheets.loaded_stylesheets_are_closed.Goals as goal

pub returns : goal.returns
returns c = loaded_closed
