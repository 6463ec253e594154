use Rattle.std.proofs.Common.{◌≡◌, drop}
use Rattle.module_loading.specs.ModuleReader.Mentions.{walks}
use Rattle.module_loading.proofs.module_reader.mentions.+mentions.Given as goal

abbrev pub invariant-add_all-loop-node : goal.invariant-add_all-loop-node
invariant-add_all-loop-node l = record {
  table_is : walks l.mention (drop l.node-index l.nodes) l.around l.table
      ≡ walks l.mention l.nodes l.initial.around l.initial.table;
  same : l.around ≡ l.initial.around;
}
