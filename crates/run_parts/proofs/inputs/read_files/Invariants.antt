use Rattle.std.proofs.Common.{List, ◌++◌, ℕ, drop}
use Rattle.doc_grammar.specs.declared.spots.Spot.{Spot}
use Rattle.xt_tree.specs.declared.trees.Tree.{Tree}
use Rattle.run_parts.specs.Further.{AreTrees, IsFirstUnread}
use Rattle.run_parts.proofs.inputs.read_files.Given as goal

abbrev pub invariant-loop-file : goal.invariant-loop-file
invariant-loop-file l = record {
  trees : (more : List Tree) → AreTrees (drop l.file-index l.loaded) more → AreTrees l.loaded (l.trees ++ more);
  unread : (name : List ℕ) (spot : Spot) → IsFirstUnread (drop l.file-index l.loaded) name spot → IsFirstUnread l.loaded name spot;
}
