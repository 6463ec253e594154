use Rattle.std.proofs.Common.{◌≡◌, ◌++◌}
use Rattle.sheet_modules.specs.ModuleNames.Names.{folder_of}
use Rattle.sheet_modules.proofs.module_names.names.folder.Given as goal

abbrev pub invariant-loop-c : goal.invariant-loop-c
invariant-loop-c l = record {
  folder_is : l.folder ≡ folder_of l.yielded;
  all_is : l.folder ++ l.part ≡ l.yielded;
}
