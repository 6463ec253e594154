use Rattle.import_tree.proofs.GoodStylesheets.Loaded.{levels_stand}
use Rattle.import_tree.proofs.good_stylesheets.loaded_levels_stand.Goals as goal

pub returns : goal.returns
returns c = levels_stand
