-- What a stylesheet of the first form makes of a document.
use Rattle.std.specs.Prelude.{ℕ, zero, suc, List, [], ◌∷◌, ◌++◌, Bool, ◌&&◌, nat_le, if◌then◌else◌, Option, Some, None}
use Rattle.xt_names.specs.declared.codes.Code.TheVariants.{Dynamic}
use Rattle.xt_names.specs.declared.codes.DynamicCode.TheVariants.{XTLM0002}
use Rattle.xt_names.specs.declared.names.Name.{Name}
use Rattle.xt_tree.specs.declared.trees.Tree.{Tree}
use Rattle.xt_tree.specs.declared.trees.Tree.TheVariants.{Doc, Elem, Text, Comment, Pi, Attr}
use Rattle.xt_tree.specs.Forest.{Forest, end, doc, elem, text, comment, pi, attr}
use Rattle.xt_tree.specs.TreeView.{forest_of, trees, kids_of, tree_height, tree_size}
use Rattle.xt_tree.specs.White.{is_white_text}
use Rattle.sheet_meaning.specs.Outcome.{Outcome, Ends, Fails, Deep, and_then, joined}
use Rattle.sheet_meaning.specs.Rules.{templates_of, best_rule}
use Rattle.xt_names.specs.Names.{is_in_xslt}

-- a text before others, where one that it stands beside becomes one with it
abbrev pub put_text : List ℕ → List Tree → List Tree
put_text [] items = items
put_text (c ∷ cs) [] = Text (c ∷ cs) ∷ []
put_text (c ∷ cs) (Text t ∷ items) = Text ((c ∷ cs) ++ t) ∷ items
put_text (c ∷ cs) (Doc kids ∷ items) = Text (c ∷ cs) ∷ Doc kids ∷ items
put_text (c ∷ cs) (Elem name attributes kids ∷ items) = Text (c ∷ cs) ∷ Elem name attributes kids ∷ items
put_text (c ∷ cs) (Comment t ∷ items) = Text (c ∷ cs) ∷ Comment t ∷ items
put_text (c ∷ cs) (Pi target t ∷ items) = Text (c ∷ cs) ∷ Pi target t ∷ items
put_text (c ∷ cs) (Attr name t ∷ items) = Text (c ∷ cs) ∷ Attr name t ∷ items

-- Complex content of texts and elements: empty texts go, and texts beside each other become one (XSLT 2.0, 5.7.1).
abbrev pub complex_content : List Tree → List Tree
complex_content [] = []
complex_content (Text t ∷ items) = put_text t (complex_content items)
complex_content (Doc kids ∷ items) = Doc kids ∷ complex_content items
complex_content (Elem name attributes kids ∷ items) = Elem name attributes kids ∷ complex_content items
complex_content (Comment t ∷ items) = Comment t ∷ complex_content items
complex_content (Pi target t ∷ items) = Pi target t ∷ complex_content items
complex_content (Attr name t ∷ items) = Attr name t ∷ complex_content items

-- at most 2,000 levels, and at most 2^63-1 nodes and attributes
abbrev pub is_within_limits : Tree → Bool
is_within_limits t = nat_le (tree_height t) 2000 && nat_le (tree_size t) 0x7FFF_FFFF_FFFF_FFFF

-- a tree that is made, or the error past the limits
unfoldable pub limited : Tree → Outcome Tree
limited t = if is_within_limits t then Ends t else Fails (Dynamic XTLM0002)

unfoldable pub element_of : Name → List Tree → Outcome Tree
element_of name items = limited (Elem name [] (forest_of (complex_content items)))

unfoldable pub document_of : List Tree → Outcome Tree
document_of items = limited (Doc (forest_of (complex_content items)))

-- the only item of a list
abbrev pub listed : Outcome Tree → Outcome (List Tree)
listed made = and_then made (λ t. Ends (t ∷ []))

-- what it means to enter a node with the calls that are left
abbrev pub Calls : Type 0
Calls = Tree → Outcome (List Tree)

-- apply-templates: the nodes in turn (XSLT 2.0, 6.3)
abbrev pub applied : Calls → List Tree → Outcome (List Tree)
applied enter [] = Ends []
applied enter (node ∷ nodes) = joined (enter node) (applied enter nodes)

-- A sequence constructor, where the focus has these children: texts that are more than white space, apply-templates, and
-- literal elements (XSLT 2.0, 5.7 and 11.1).
abbrev pub constructed : Calls → List Tree → Forest → Outcome (List Tree)
constructed enter kids end = Ends []
constructed enter kids (doc inside rest) = constructed enter kids rest
constructed enter kids (elem name attributes inside rest) =
    joined
    (if is_in_xslt name then applied enter kids
    else and_then (constructed enter kids inside) (λ items. listed (element_of name items)))
    (constructed enter kids rest)
constructed enter kids (text t rest) =
    joined (if is_white_text t then Ends [] else Ends (Text t ∷ [])) (constructed enter kids rest)
constructed enter kids (comment t rest) = constructed enter kids rest
constructed enter kids (pi target t rest) = constructed enter kids rest
constructed enter kids (attr name t rest) = constructed enter kids rest

-- the built-in rules (XSLT 2.0, 6.6)
abbrev pub built_in : Calls → Tree → Outcome (List Tree)
built_in enter (Doc kids) = applied enter (trees kids)
built_in enter (Elem name attributes kids) = applied enter (trees kids)
built_in enter (Text t) = Ends (Text t ∷ [])
built_in enter (Comment t) = Ends []
built_in enter (Pi target t) = Ends []
built_in enter (Attr name t) = Ends (Text t ∷ [])

-- the content of the best rule, or the built-in rule where there is none
abbrev pub ruled : Calls → Option Forest → Tree → Outcome (List Tree)
ruled enter (Some content) node = constructed enter (kids_of node) content
ruled enter None node = built_in enter node

-- what it means to enter a node with so many calls left, where this is the best rule of each node
abbrev pub entered : (Tree → Option Forest) → ℕ → Calls
entered best zero node = Deep
entered best (suc n) node = ruled (entered best n) (best node) node

-- the outcome of a stylesheet on a document, with so many calls open at once (XSLT 2.0, 2.4)
abbrev pub transform_meaning : Tree → Tree → ℕ → Outcome Tree
transform_meaning sheet document n =
    and_then (entered (best_rule (templates_of sheet)) n document) document_of
