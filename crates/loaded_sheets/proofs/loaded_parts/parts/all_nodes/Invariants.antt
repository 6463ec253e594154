use Rattle.std.proofs.Common.{◌≡◌, ◌++◌, length}
use Rattle.loaded_sheets.specs.LoadedParts.Names.{AllCanBeRead, nodes_in}
use Rattle.loaded_sheets.proofs.loaded_parts.parts.all_nodes.Given as goal

abbrev pub invariant-loop-left : goal.invariant-loop-left
invariant-loop-left l = record {
  nodes : l.all ++ nodes_in l.left ≡ nodes_in l.modules;
  readable : AllCanBeRead l.left;
}

abbrev pub decreases-loop-left : goal.decreases-loop-left
decreases-loop-left l = length l.left
