-- Trees without the white space that rules strip (XSLT 2.0, 4.4).
use Rattle.std.specs.Prelude.{ℕ, List, [], ◌∷◌, Bool, true, false, not, ◌&&◌, if◌then◌else◌, codes}
use Rattle.std.specs.Str.{bytes_eq}
use Rattle.xt_names.specs.Allowed.{xml_uri}
use Rattle.xt_names.specs.declared.names.Name.{Name}
use Rattle.xt_types.specs.declared.node_tests.SpaceRule.{SpaceRule}
use Rattle.xt_tree.specs.declared.attributes.Attribute.{Attribute}
use Rattle.xt_tree.specs.declared.trees.Tree.{Tree}
use Rattle.xt_tree.specs.declared.trees.Tree.TheVariants.{Doc, Elem, Text, Comment, Pi, Attr}
use Rattle.xt_tree.specs.Forest.{Forest, end, doc, elem, text, comment, pi, attr}
use Rattle.xt_tree.specs.White.{is_white_text}
use Rattle.node_tests.specs.Tests.{passes_name}

-- what the first rule says whose test passes the name; where there is none, nothing is stripped
unfoldable pub strips : List SpaceRule → Name → Bool
strips [] name = false
strips (r ∷ rest) name = if passes_name r.test name then r.strip else strips rest name

unfoldable pub is_xml_space : Name → Bool
is_xml_space name = bytes_eq name.uri xml_uri && bytes_eq name.local (codes "space")

-- an xml:space of the value preserve, or default
unfoldable pub says_preserve : Attribute → Bool
says_preserve a = is_xml_space a.name && bytes_eq a.value (codes "preserve")

unfoldable pub says_default : Attribute → Bool
says_default a = is_xml_space a.name && bytes_eq a.value (codes "default")

-- Whether the nearest xml:space says that white space stays: the one of the element itself, where it has one with such a value,
-- and else what holds around the element.
unfoldable pub preserves : Bool → List Attribute → Bool
preserves outer [] = outer
preserves outer (a ∷ rest) = if says_preserve a then true else if says_default a then false else preserves outer rest

-- whether the texts of white space directly in an element go
unfoldable pub drops_in : List SpaceRule → Bool → Name → Bool
drops_in rules kept name = strips rules name && not kept

abbrev pub unless_dropped : Bool → List ℕ → Forest → Forest
unless_dropped dropped t rest = if dropped then rest else text t rest

-- The trees without the texts that go: `kept` says whether white space stays by the nearest xml:space, and `drops` whether
-- the texts of white space directly among the trees go.
abbrev pub stripped_forest : List SpaceRule → Bool → Bool → Forest → Forest
stripped_forest rules kept drops end = end
stripped_forest rules kept drops (doc kids rest) = doc (stripped_forest rules kept false kids) (stripped_forest rules kept drops rest)
stripped_forest rules kept drops (elem name attributes kids rest) =
    elem name attributes (stripped_forest rules (preserves kept attributes) (drops_in rules (preserves kept attributes) name) kids)
    (stripped_forest rules kept drops rest)
stripped_forest rules kept drops (text t rest) = unless_dropped (drops && is_white_text t) t (stripped_forest rules kept drops rest)
stripped_forest rules kept drops (comment t rest) = comment t (stripped_forest rules kept drops rest)
stripped_forest rules kept drops (pi target t rest) = pi target t (stripped_forest rules kept drops rest)
stripped_forest rules kept drops (attr name t rest) = attr name t (stripped_forest rules kept drops rest)

-- a tree inside of which texts go, and which stays itself
abbrev pub stripped_inside : List SpaceRule → Bool → Tree → Tree
stripped_inside rules kept (Doc kids) = Doc (stripped_forest rules kept false kids)
stripped_inside rules kept (Elem name attributes kids) =
    Elem name attributes (stripped_forest rules (preserves kept attributes) (drops_in rules (preserves kept attributes) name) kids)
stripped_inside rules kept (Text t) = Text t
stripped_inside rules kept (Comment t) = Comment t
stripped_inside rules kept (Pi target t) = Pi target t
stripped_inside rules kept (Attr name t) = Attr name t

-- The tree without those texts of white space alone whose parent is an element for whose name the first passing rule says strip,
-- and for which the nearest xml:space of the value preserve or default, where there is one, says default.
abbrev pub stripped : List SpaceRule → Tree → Tree
stripped rules t = stripped_inside rules false t
