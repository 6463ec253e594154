use Rattle.std.proofs.Common.{refl}
use Rattle.sheet_modules.proofs.ModuleNames.Folders.{begins_by_first}
use Rattle.sheet_modules.proofs.module_names.names.begins_at_root.Goals as goal

pub returns-in-Some : goal.returns-in-Some
returns-in-Some c = begins_by_first _ _ _ _ c.chars.ensures.rest c.in-Some.ensures.steps.2 refl
