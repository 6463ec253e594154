use Rattle.std.proofs.Common.{◌≡◌, drop}
use Rattle.module_loading.specs.ModuleReader.Mentions.{with_names}
use Rattle.module_loading.proofs.module_reader.mentions.add_names.Given as goal

abbrev pub invariant-loop-name : goal.invariant-loop-name
invariant-loop-name l = with_names l.table (drop l.name-index l.names) ≡ with_names l.initial.table l.names
