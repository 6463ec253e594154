use Rattle.assembly_laws.specs.Laws.{declares, declares_spaces}
use Rattle.closed_parts.specs.Closed.{closed_part, closed_space}
use Rattle.closed_parts.proofs.Tops.{top_closed, top_spaces}
use Rattle.import_tree.proofs.GoodStylesheets.Declarations.{loaded_closed}
use Rattle.import_tree.proofs.good_stylesheets.modules.loaded_declarations_are_closed.Goals as goal

pub returns-clause-parts : goal.returns-clause-parts
returns-clause-parts c = loaded_closed (declares closed_part) top_closed

pub returns-clause-spaces : goal.returns-clause-spaces
returns-clause-spaces c = loaded_closed (declares_spaces closed_space) top_spaces
