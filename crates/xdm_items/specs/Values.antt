-- The string value and the typed value of items.
use Rattle.std.specs.Prelude.{ℕ, List, [], map, Option, Some, None}
use Rattle.xt_atoms.specs.AtomTexts.{text_of}
use Rattle.xt_atoms.specs.declared.atoms.Atom.{Atom as AtomValue}
use Rattle.xt_atoms.specs.declared.atoms.Atom.TheVariants.{Str, Untyped}
use Rattle.node_tests.specs.XtTree.Forest.{texts}
use Rattle.node_tests.specs.XtTree.Place.{subtree_of}
use Rattle.node_tests.specs.XtTree.TreeView as tree_view
use Rattle.node_tests.specs.XtTree.declared.trees.Tree.{Tree}
use Rattle.node_tests.specs.XtTree.declared.trees.Tree.TheVariants.{Doc, Elem, Text, Comment, Pi, Attr}
use Rattle.xdm_items.specs.declared.items.Item.{Item}
use Rattle.xdm_items.specs.declared.items.Item.TheVariants.{Node, Atom}

-- the string value of the tree below a node; each node has one
abbrev pub string_value_below : Option Tree → List ℕ
string_value_below None = []
string_value_below (Some t) = tree_view.string_value_of t

-- the string value of a node, and the text of an atom
abbrev pub string_value_of : Item → List ℕ
string_value_of (Node n) = string_value_below (subtree_of n)
string_value_of (Atom a) = text_of a

-- the typed value of a node: untyped of a document, an element, an attribute and a text, and a string of a comment and a
-- processing instruction
abbrev pub typed_value : Tree → AtomValue
typed_value (Doc kids) = Untyped (texts kids)
typed_value (Elem name attributes kids) = Untyped (texts kids)
typed_value (Text t) = Untyped t
typed_value (Comment t) = Str t
typed_value (Pi target t) = Str t
typed_value (Attr name t) = Untyped t

-- the same of the tree below a node; each node has one
abbrev pub typed_value_below : Option Tree → AtomValue
typed_value_below None = Untyped []
typed_value_below (Some t) = typed_value t

-- an item made an atom; an atom stays as it is
abbrev pub atomized_item : Item → Item
atomized_item (Node n) = Atom (typed_value_below (subtree_of n))
atomized_item (Atom a) = Atom a

-- each item made an atom
unfoldable pub atomized : List Item → List Item
atomized items = map atomized_item items
