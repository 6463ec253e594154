use Rattle.std.proofs.Common.{◌≡◌, ◌++◌, drop}
use Rattle.module_loading.proofs.module_reader.modules.names_of.Given as goal

abbrev pub invariant-loop-name : goal.invariant-loop-name
invariant-loop-name l = l.copy ++ drop l.name-index l.names ≡ l.names
