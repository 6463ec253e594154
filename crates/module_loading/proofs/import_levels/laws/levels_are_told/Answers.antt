use Rattle.module_loading.proofs.ImportLevels.Nest.{each_first}
use Rattle.module_loading.proofs.import_levels.laws.levels_are_told.Goals as goal

pub returns : goal.returns
returns c = each_first
