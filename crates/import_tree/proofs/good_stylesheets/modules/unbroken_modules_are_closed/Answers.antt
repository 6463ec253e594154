use Rattle.assembly_laws.specs.Laws.{declares, declares_spaces}
use Rattle.closed_parts.specs.Closed.{closed_part, closed_space}
use Rattle.closed_parts.proofs.Tops.{top_closed, top_spaces}
use Rattle.import_tree.proofs.GoodStylesheets.Singles.{module_closed}
use Rattle.import_tree.proofs.good_stylesheets.modules.unbroken_modules_are_closed.Goals as goal

pub returns-clause-parts : goal.returns-clause-parts
returns-clause-parts c = module_closed (declares closed_part) top_closed

pub returns-clause-spaces : goal.returns-clause-spaces
returns-clause-spaces c = module_closed (declares_spaces closed_space) top_spaces
