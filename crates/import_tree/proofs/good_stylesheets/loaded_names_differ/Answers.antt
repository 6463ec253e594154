use Rattle.import_tree.proofs.GoodStylesheets.Different.{names_apart}
use Rattle.import_tree.proofs.good_stylesheets.loaded_names_differ.Goals as goal

pub returns : goal.returns
returns c = names_apart c.functions_differ.ensures c.globals_differ.ensures
