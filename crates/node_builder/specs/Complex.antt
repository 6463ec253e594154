-- Complex content: what the items of a constructor give as attributes and children (XSLT 2.0, 5.7.1; XQuery 1.0, 3.7.1.3).
use Rattle.std.specs.Prelude.{ℕ, List, [], ◌∷◌, ◌++◌, map, Bool, true, false, if◌then◌else◌, Option, Some, None}
use Rattle.std.specs.List.{list_any}
use Rattle.xt_names.specs.Allowed.{is_empty_text}
use Rattle.xt_names.specs.declared.codes.Code.{Code}
use Rattle.xt_names.specs.declared.codes.Code.TheVariants.{Dynamic, QueryDynamic, SheetDynamic}
use Rattle.xt_names.specs.declared.codes.DynamicCode.TheVariants.{XPTY0004}
use Rattle.xt_names.specs.declared.codes.QueryDynamicCode.TheVariants.{XQTY0024, XQDY0025}
use Rattle.xt_names.specs.declared.codes.SheetDynamicCode.TheVariants.{XTDE0410, XTDE0420}
use Rattle.xt_atoms.specs.AtomTexts.{text_of}
use Rattle.xt_tree.specs.Place.{subtree_of}
use Rattle.xt_tree.specs.Sound.{names_differ}
use Rattle.xt_tree.specs.TreeView.{trees}
use Rattle.xt_tree.specs.declared.attributes.Attribute.{Attribute}
use Rattle.xt_tree.specs.declared.trees.Tree.{Tree}
use Rattle.xt_tree.specs.declared.trees.Tree.TheVariants.{Doc, Elem, Text, Comment, Pi, Attr}
use Rattle.xdm_items.specs.declared.items.Item.{Item}
use Rattle.xdm_items.specs.declared.items.Item.TheVariants.{Node, Atom}
use Rattle.node_builder.specs.Made.{Made, Gives, Fails, made_then}
use Rattle.node_builder.specs.declared.contents.Content.{Content}
use Rattle.node_builder.specs.declared.kinds.Duplicates.{Duplicates}
use Rattle.node_builder.specs.declared.kinds.Duplicates.TheVariants.{KeepLast, Refuse}
use Rattle.node_builder.specs.declared.kinds.Holder.{Holder}
use Rattle.node_builder.specs.declared.kinds.Holder.TheVariants.{Element, Document}
use Rattle.xt_names.specs.Names.{same_name}

-- a part of the content: the words of atoms that stand beside each other, or a tree
pub data Piece : Type 0 where
  words : List ℕ → Piece
  whole : Tree → Piece

-- First, each longest run of atoms becomes one text, with a space between the atoms.
abbrev pub put_atom : List ℕ → List Piece → List Piece
put_atom t [] = words t ∷ []
put_atom t (words u ∷ pieces) = words (t ++ 32 ∷ u) ∷ pieces
put_atom t (whole x ∷ pieces) = words t ∷ whole x ∷ pieces

-- the tree below a node; each node has one
abbrev pub put_node : Option Tree → List Piece → List Piece
put_node None pieces = pieces
put_node (Some x) pieces = whole x ∷ pieces

abbrev pub pieces_of : List Item → List Piece
pieces_of [] = []
pieces_of (Node n ∷ items) = put_node (subtree_of n) (pieces_of items)
pieces_of (Atom a ∷ items) = put_atom (text_of a) (pieces_of items)

abbrev pub piece_tree : Piece → Tree
piece_tree (words t) = Text t
piece_tree (whole x) = x

-- Then documents become their children.
abbrev pub opened : List Tree → List Tree
opened [] = []
opened (Doc kids ∷ xs) = trees kids ++ opened xs
opened (Elem name attributes kids ∷ xs) = Elem name attributes kids ∷ opened xs
opened (Text t ∷ xs) = Text t ∷ opened xs
opened (Comment t ∷ xs) = Comment t ∷ opened xs
opened (Pi target t ∷ xs) = Pi target t ∷ opened xs
opened (Attr name t ∷ xs) = Attr name t ∷ opened xs

-- Then empty texts go.
abbrev pub is_empty_node : Tree → Bool
is_empty_node (Doc kids) = false
is_empty_node (Elem name attributes kids) = false
is_empty_node (Text t) = is_empty_text t
is_empty_node (Comment t) = false
is_empty_node (Pi target t) = false
is_empty_node (Attr name t) = false

abbrev pub without_empty : List Tree → List Tree
without_empty [] = []
without_empty (x ∷ xs) = if is_empty_node x then without_empty xs else x ∷ without_empty xs

-- Then texts beside each other merge.
abbrev pub merge_text : List ℕ → List Tree → List Tree
merge_text t [] = Text t ∷ []
merge_text t (Doc kids ∷ xs) = Text t ∷ Doc kids ∷ xs
merge_text t (Elem name attributes kids ∷ xs) = Text t ∷ Elem name attributes kids ∷ xs
merge_text t (Text u ∷ xs) = Text (t ++ u) ∷ xs
merge_text t (Comment u ∷ xs) = Text t ∷ Comment u ∷ xs
merge_text t (Pi target u ∷ xs) = Text t ∷ Pi target u ∷ xs
merge_text t (Attr name u ∷ xs) = Text t ∷ Attr name u ∷ xs

abbrev pub merged : List Tree → List Tree
merged [] = []
merged (Doc kids ∷ xs) = Doc kids ∷ merged xs
merged (Elem name attributes kids ∷ xs) = Elem name attributes kids ∷ merged xs
merged (Text t ∷ xs) = merge_text t (merged xs)
merged (Comment t ∷ xs) = Comment t ∷ merged xs
merged (Pi target t ∷ xs) = Pi target t ∷ merged xs
merged (Attr name t ∷ xs) = Attr name t ∷ merged xs

abbrev pub content_nodes : List Item → List Tree
content_nodes items = merged (without_empty (opened (map piece_tree (pieces_of items))))

-- Then an element takes the attributes at the front, and a document takes none.
abbrev pub is_attribute : Tree → Bool
is_attribute (Doc kids) = false
is_attribute (Elem name attributes kids) = false
is_attribute (Text t) = false
is_attribute (Comment t) = false
is_attribute (Pi target t) = false
is_attribute (Attr name t) = true

abbrev pub leading_attributes : List Tree → List Attribute
leading_attributes [] = []
leading_attributes (Doc kids ∷ xs) = []
leading_attributes (Elem name attributes kids ∷ xs) = []
leading_attributes (Text t ∷ xs) = []
leading_attributes (Comment t ∷ xs) = []
leading_attributes (Pi target t ∷ xs) = []
leading_attributes (Attr n t ∷ xs) = record { name = n; value = t } ∷ leading_attributes xs

abbrev pub behind_attributes : List Tree → List Tree
behind_attributes [] = []
behind_attributes (Doc kids ∷ xs) = Doc kids ∷ xs
behind_attributes (Elem name attributes kids ∷ xs) = Elem name attributes kids ∷ xs
behind_attributes (Text t ∷ xs) = Text t ∷ xs
behind_attributes (Comment t ∷ xs) = Comment t ∷ xs
behind_attributes (Pi target t ∷ xs) = Pi target t ∷ xs
behind_attributes (Attr name t ∷ xs) = behind_attributes xs

abbrev pub front : Holder → List Tree → List Attribute
front Element xs = leading_attributes xs
front Document xs = []

abbrev pub behind : Holder → List Tree → List Tree
behind Element xs = behind_attributes xs
behind Document xs = xs

-- an attribute elsewhere is an error
abbrev pub misplaced : Duplicates → Holder → Code
misplaced KeepLast Element = SheetDynamic XTDE0410
misplaced KeepLast Document = SheetDynamic XTDE0420
misplaced Refuse Element = QueryDynamic XQTY0024
misplaced Refuse Document = Dynamic XPTY0004

-- Last, of attributes with the same name a stylesheet keeps the last, at its own place; in a query they are an error.
abbrev pub last_of_each : List Attribute → List Attribute
last_of_each [] = []
last_of_each (a ∷ rest) = if list_any (λ b. same_name a.name b.name) rest then last_of_each rest else a ∷ last_of_each rest

abbrev pub distinct : Duplicates → List Attribute → Made (List Attribute)
distinct KeepLast attributes = Gives (last_of_each attributes)
distinct Refuse attributes = if names_differ attributes then Gives attributes else Fails (QueryDynamic XQDY0025)

unfoldable pub taken : Duplicates → Holder → List Attribute → List Tree → Made Content
taken side holder attributes kids =
    if list_any is_attribute kids then Fails (misplaced side holder) else made_then (distinct side attributes) (λ kept. Gives (record { attributes = kept; kids = kids }))

-- the attributes and the children
unfoldable pub complex_content : Duplicates → Holder → List Item → Made Content
complex_content side holder items = taken side holder (front holder (content_nodes items)) (behind holder (content_nodes items))
