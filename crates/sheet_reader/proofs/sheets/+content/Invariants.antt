use Rattle.std.proofs.Common.{◌≡◌, ◌+◌, ◌*◌, drop}
use Rattle.xt_tree.specs.TreeView.{forest_of}
use Rattle.sheet_meaning.specs.First.{is_content}
use Rattle.sheet_reader.proofs.sheets.+content.Given as goal

abbrev pub invariant-is_content-loop-tree : goal.invariant-is_content-loop-tree
invariant-is_content-loop-tree l = is_content l.room (forest_of (drop l.tree-index l.content)) ≡ is_content l.room (forest_of l.content)

abbrev pub decreases-is_content : goal.decreases-is_content
decreases-is_content l = 3 * l.room + 2

abbrev pub decreases-is_instruction : goal.decreases-is_instruction
decreases-is_instruction l = 3 * l.room + 1

abbrev pub decreases-is_literal : goal.decreases-is_literal
decreases-is_literal l = 3 * l.room
