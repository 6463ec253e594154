-- Deep equality (XQuery 1.0 and XPath 2.0 Functions and Operators, 15.3.1).
use Rattle.std.specs.Prelude.{List, [], ◌∷◌, length, Bool, true, false, ◌&&◌, nat_eq, Option, Some}
use Rattle.std.specs.List.{list_all, list_any}
use Rattle.std.specs.Str.{bytes_eq}
use Rattle.xt_tree.specs.declared.attributes.Attribute.{Attribute}
use Rattle.xt_tree.specs.declared.trees.Tree.{Tree}
use Rattle.xt_tree.specs.declared.trees.Tree.TheVariants.{Doc, Elem, Text, Comment, Pi, Attr}
use Rattle.xt_tree.specs.Forest.{Forest, end, doc, elem, text, comment, pi, attr}
use Rattle.xt_tree.specs.Place.{subtree_of}
use Rattle.xt_atoms.specs.Comparisons.{same_name}
use Rattle.xt_atoms.specs.Keys.{key_same}
use Rattle.xdm_items.specs.declared.items.Item.{Item}
use Rattle.xdm_items.specs.declared.items.Item.TheVariants as item

-- an equal name, whatever the prefix, and an equal value
unfoldable pub same_attribute : Attribute → Attribute → Bool
same_attribute a b = same_name a.name b.name && bytes_eq a.value b.value

abbrev pub has_attribute : List Attribute → Attribute → Bool
has_attribute attributes a = list_any (λ b. same_attribute b a) attributes

-- as many attributes, each of them with an equal one among the others, in any order
unfoldable pub same_attributes : List Attribute → List Attribute → Bool
same_attributes attributes others = nat_eq (length attributes) (length others) && list_all (has_attribute others) attributes

-- children without the comments and processing instructions among them, at every level
abbrev pub compared : Forest → Forest
compared end = end
compared (doc kids rest) = doc (compared kids) (compared rest)
compared (elem name attributes kids rest) = elem name attributes (compared kids) (compared rest)
compared (text t rest) = text t (compared rest)
compared (comment t rest) = compared rest
compared (pi target t rest) = compared rest
compared (attr name t rest) = attr name t (compared rest)

-- as many children, pair by pair of one kind and name, with equal attributes and children, or an
-- equal text
abbrev pub alike : Forest → Forest → Bool
alike end end = true
alike (doc kids rest) (doc kids' rest') = alike kids kids' && alike rest rest'
alike (elem name attributes kids rest) (elem name' attributes' kids' rest') =
    (same_name name name' && same_attributes attributes attributes' && alike kids kids') && alike rest rest'
alike (text t rest) (text t' rest') = bytes_eq t t' && alike rest rest'
alike (comment t rest) (comment t' rest') = bytes_eq t t' && alike rest rest'
alike (pi target t rest) (pi target' t' rest') = (bytes_eq target target' && bytes_eq t t') && alike rest rest'
alike (attr name t rest) (attr name' t' rest') = (same_name name name' && bytes_eq t t') && alike rest rest'
alike _ _ = false

-- two nodes with what is below them: comments and processing instructions count where they are
-- compared themselves, and not among children
abbrev pub same_trees : Tree → Tree → Bool
same_trees (Doc kids) (Doc kids') = alike (compared kids) (compared kids')
same_trees (Elem name attributes kids) (Elem name' attributes' kids') =
    same_name name name' && same_attributes attributes attributes' && alike (compared kids) (compared kids')
same_trees (Text t) (Text t') = bytes_eq t t'
same_trees (Comment t) (Comment t') = bytes_eq t t'
same_trees (Pi target t) (Pi target' t') = bytes_eq target target' && bytes_eq t t'
same_trees (Attr name t) (Attr name' t') = same_name name name' && bytes_eq t t'
same_trees _ _ = false

-- the trees below two nodes; each node has one
abbrev pub same_below : Option Tree → Option Tree → Bool
same_below (Some t) (Some t') = same_trees t t'
same_below _ _ = false

abbrev pub same_items : Item → Item → Bool
same_items (item.Node n) (item.Node n') = same_below (subtree_of n) (subtree_of n')
same_items (item.Atom a) (item.Atom a') = key_same a a'
same_items _ _ = false

-- as many items, pair by pair the same
abbrev pub deep_equal : List Item → List Item → Bool
deep_equal [] [] = true
deep_equal (x ∷ xs) (y ∷ ys) = same_items x y && deep_equal xs ys
deep_equal _ _ = false
