use Rattle.std.proofs.Common.{◌≡◌, drop}
use Rattle.module_loading.specs.ModuleReader.Mentions.{top_walk}
use Rattle.module_loading.proofs.module_reader.mentions.add_tops.Given as goal

abbrev pub invariant-loop-node : goal.invariant-loop-node
invariant-loop-node l = record {
  table_is : top_walk l.mention (drop l.node-index l.nodes) l.around l.table
      ≡ top_walk l.mention l.nodes l.initial.around l.initial.table;
  same : l.around ≡ l.initial.around;
}
