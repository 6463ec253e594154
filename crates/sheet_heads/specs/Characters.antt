-- The content of xsl:text, which is text alone (XSLT 2.0, 11.4.2).
use Rattle.std.specs.Prelude.{ℕ, List, [], ◌∷◌, ◌++◌}
use Rattle.xt_names.specs.declared.codes.Code.{Code}
use Rattle.xt_names.specs.declared.codes.Code.TheVariants.{SheetStatic}
use Rattle.sheet_table.specs.SheetNodes.Parts.{misplaced_node}
use Rattle.sheet_table.specs.declared.sheet_nodes.nodes.Node.{Node}
use Rattle.sheet_table.specs.declared.sheet_nodes.nodes.Node.TheViews.{out-Node}
use Rattle.sheet_table.specs.declared.sheet_nodes.nodes.Node.TheOpen.{Node-F, Elem, Chars}
use Rattle.sheet_values.specs.Rules.{each}

abbrev pub layer_faults : Node → Node-F Node → List Code
layer_faults n (Elem own name attributes kids) = SheetStatic (misplaced_node n) ∷ []
layer_faults n (Chars t) = []

abbrev pub layer_characters : Node-F Node → List ℕ
layer_characters (Elem own name attributes kids) = []
layer_characters (Chars t) = t

-- a node is no element
unfoldable pub node_faults : Node → List Code
node_faults n = layer_faults n (out-Node n)

unfoldable pub node_characters : Node → List ℕ
node_characters n = layer_characters (out-Node n)

abbrev pub characters_faults : List Node → List Code
characters_faults nodes = each node_faults nodes

abbrev pub characters_value : List Node → List ℕ
characters_value [] = []
characters_value (n ∷ ns) = node_characters n ++ characters_value ns
