-- Lists of trees from which nothing can go.
use Rattle.std.specs.Prelude.{List, [], ◌∷◌, Bool, true, false, not, ◌&&◌, if◌then◌else◌}
use Rattle.std.specs.List.{list_all}
use Rattle.xt_tree.specs.declared.trees.Tree.{Tree}
use Rattle.xt_tree.specs.declared.trees.Tree.TheVariants.{Doc, Elem, Text, Comment, Pi, Attr}
use Rattle.xt_tree.specs.White.{is_white_text}
use Rattle.xt_types.specs.declared.node_tests.SpaceRule.{SpaceRule}
use Rattle.doc_set.specs.WhiteSpace.Stripped.{stripped_inside}

-- a tree without children
abbrev pub is_leaf : Tree → Bool
is_leaf (Doc kids) = false
is_leaf (Elem name attributes kids) = false
is_leaf (Text t) = true
is_leaf (Comment t) = true
is_leaf (Pi target t) = true
is_leaf (Attr name t) = true

-- a text of white space alone, where such texts go
abbrev pub is_dropped : Bool → Tree → Bool
is_dropped drops (Doc kids) = false
is_dropped drops (Elem name attributes kids) = false
is_dropped drops (Text t) = drops && is_white_text t
is_dropped drops (Comment t) = false
is_dropped drops (Pi target t) = false
is_dropped drops (Attr name t) = false

abbrev pub is_flat : Bool → List Tree → Bool
is_flat drops kids = list_all (λ t. is_leaf t && not (is_dropped drops t)) kids

-- what is left of a tree: nothing where it goes, and else the tree without what goes inside of it
abbrev pub left_of : List SpaceRule → Bool → Bool → Tree → List Tree
left_of rules kept drops t = if is_dropped drops t then [] else stripped_inside rules kept t ∷ []
