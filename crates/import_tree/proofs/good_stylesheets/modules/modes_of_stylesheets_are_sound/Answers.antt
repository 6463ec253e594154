use Rattle.import_tree.proofs.GoodStylesheets.Modes.{modes_named}
use Rattle.import_tree.proofs.good_stylesheets.modules.modes_of_stylesheets_are_sound.Goals as goal

pub returns : goal.returns
returns c = λ modules levels h d. modes_named modules h d levels
