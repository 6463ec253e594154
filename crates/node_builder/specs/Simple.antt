-- Simple content: the one text that items give (XSLT 2.0, 5.7.2).
use Rattle.std.specs.Prelude.{ℕ, List, [], ◌∷◌, ◌++◌, map, Option, Some, None}
use Rattle.xt_tree.specs.Place.{subtree_of}
use Rattle.xt_tree.specs.TreeView.{string_value_of}
use Rattle.xt_tree.specs.declared.trees.Tree.{Tree}
use Rattle.xt_tree.specs.declared.trees.Tree.TheVariants.{Doc, Elem, Text, Comment, Pi, Attr}
use Rattle.xt_atoms.specs.AtomTexts.{text_of}
use Rattle.xdm_items.specs.declared.items.Item.{Item}
use Rattle.xdm_items.specs.declared.items.Item.TheVariants.{Node, Atom}

-- the text of a text node, or of any other item
pub data Part : Type 0 where
  run : List ℕ → Part
  value : List ℕ → Part

abbrev pub part_of_tree : Tree → Part
part_of_tree (Doc kids) = value (string_value_of (Doc kids))
part_of_tree (Elem name attributes kids) = value (string_value_of (Elem name attributes kids))
part_of_tree (Text t) = run t
part_of_tree (Comment t) = value t
part_of_tree (Pi target t) = value t
part_of_tree (Attr name t) = value t

-- each node has a tree
abbrev pub part_below : Option Tree → Part
part_below None = value []
part_below (Some x) = part_of_tree x

abbrev pub part_of : Item → Part
part_of (Node n) = part_below (subtree_of n)
part_of (Atom a) = value (text_of a)

-- First, empty text nodes go.
abbrev pub without_empty_runs : List Part → List Part
without_empty_runs [] = []
without_empty_runs (run [] ∷ parts) = without_empty_runs parts
without_empty_runs (run (c ∷ cs) ∷ parts) = run (c ∷ cs) ∷ without_empty_runs parts
without_empty_runs (value t ∷ parts) = value t ∷ without_empty_runs parts

-- Then text nodes beside each other merge.
abbrev pub merge_run : List ℕ → List Part → List Part
merge_run t [] = run t ∷ []
merge_run t (run u ∷ parts) = run (t ++ u) ∷ parts
merge_run t (value u ∷ parts) = run t ∷ value u ∷ parts

abbrev pub merged_runs : List Part → List Part
merged_runs [] = []
merged_runs (run t ∷ parts) = merge_run t (merged_runs parts)
merged_runs (value t ∷ parts) = value t ∷ merged_runs parts

-- Then each is made a text, and these are joined with the separator.
abbrev pub part_text : Part → List ℕ
part_text (run t) = t
part_text (value t) = t

abbrev pub joined_behind : List ℕ → List (List ℕ) → List ℕ
joined_behind separator [] = []
joined_behind separator (t ∷ ts) = separator ++ (t ++ joined_behind separator ts)

abbrev pub joined_with : List ℕ → List (List ℕ) → List ℕ
joined_with separator [] = []
joined_with separator (t ∷ ts) = t ++ joined_behind separator ts

unfoldable pub simple_content : List ℕ → List Item → List ℕ
simple_content separator items = joined_with separator (map part_text (merged_runs (without_empty_runs (map part_of items))))
