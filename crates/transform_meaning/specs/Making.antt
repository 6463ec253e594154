-- Instructions that make nodes (XSLT 2.0, 11). Each takes the next number once its parts are done.
use Rattle.std.specs.Prelude.{ℕ, List, [], ◌∷◌, ◌++◌, flat_map, if◌then◌else◌}
use Rattle.std.specs.Prelude.{Option, Some, None, Result, Ok}
use Rattle.xt_names.specs.declared.codes.Code.{Code}
use Rattle.xt_names.specs.declared.codes.Code.TheVariants.{SheetDynamic}
use Rattle.xt_names.specs.declared.codes.SheetDynamicCode.TheVariants.{XTTE0945}
use Rattle.xt_names.specs.declared.names.Name.{Name}
use Rattle.xt_tree.specs.Place.{subtree_of}
use Rattle.xt_tree.specs.Sound.{names_differ}
use Rattle.xt_tree.specs.declared.attributes.Attribute.{Attribute}
use Rattle.xt_tree.specs.declared.trees.Tree.{Tree}
use Rattle.xt_tree.specs.declared.trees.Tree.TheVariants as tree
use Rattle.xdm_items.specs.declared.items.Item.{Item}
use Rattle.xdm_items.specs.declared.items.Item.TheVariants.{Node, Atom}
use Rattle.node_builder.specs.Made.{Gives}
use Rattle.node_builder.specs.Trees.{element_of, document_of, comment_of, pi_of}
use Rattle.node_builder.specs.declared.kinds.Duplicates.TheVariants.{KeepLast}
use Rattle.expr_meaning.specs.Outcomes.Outcome.{Outcome, Ends, Fails, and_then, step_outcome, for_each}
use Rattle.expr_meaning.specs.SortMeaning.Sorted.{Placed, counted}
use Rattle.expr_meaning.specs.Env.{Env, Meaning}
use Rattle.expr_meaning.specs.Making.{made}
use Rattle.transform_meaning.specs.Names.{NameMeaning}
use Rattle.transform_meaning.specs.Texts.{TextMeaning}

abbrev pub attribute_in_tree : Option Tree → List Attribute
attribute_in_tree None = []
attribute_in_tree (Some (tree.Doc kids)) = []
attribute_in_tree (Some (tree.Elem name attributes kids)) = []
attribute_in_tree (Some (tree.Text t)) = []
attribute_in_tree (Some (tree.Comment t)) = []
attribute_in_tree (Some (tree.Pi target t)) = []
attribute_in_tree (Some (tree.Attr name t)) = record { name = name; value = t } ∷ []

abbrev pub attribute_in : Item → List Attribute
attribute_in (Node n) = attribute_in_tree (subtree_of n)
attribute_in (Atom a) = []

-- items among which two attributes have one name are counted
unfoldable pub element_items : List Item → Result (List Item) Code
element_items xs = if names_differ (flat_map attribute_in xs) then Ok xs else counted xs xs

abbrev pub new_element : Name → List Item → ℕ → Outcome (List Item)
new_element name xs k =
    and_then (step_outcome (element_items xs) k) (λ ys. made (element_of KeepLast name ys))

abbrev pub new_document : List Item → ℕ → Outcome (List Item)
new_document xs = made (document_of KeepLast xs)

abbrev pub new_attribute : Name → List ℕ → ℕ → Outcome (List Item)
new_attribute name text = made (Gives (tree.Attr name text))

abbrev pub new_text : List ℕ → ℕ → Outcome (List Item)
new_text text = made (Gives (tree.Text text))

-- an element or a document with this content
abbrev pub element_with : Name → Meaning → Meaning
element_with name content env k = and_then (content env k) (new_element name)

abbrev pub document_with : Meaning → Meaning
document_with content env k = and_then (content env k) new_document

-- literal text, and xsl:text
abbrev pub text_made : List ℕ → Meaning
text_made text env = new_text text

-- xsl:value-of
abbrev pub value_made : TextMeaning → Meaning
value_made text env k = and_then (text env k) new_text

-- an attribute of a literal element
abbrev pub AttributeMeaning : Type 0
AttributeMeaning = Name × TextMeaning

abbrev pub literal_attribute : Env → AttributeMeaning → ℕ → Outcome (List Item)
literal_attribute env a k = and_then (a.1 env k) (new_attribute a.0)

-- a literal element: the attributes in order, then the content
abbrev pub literal_made : Name → List AttributeMeaning → Meaning → Meaning
literal_made name attributes content env k =
    and_then (for_each (literal_attribute env) attributes k) (λ ys j.
    and_then (content env j) (λ xs. new_element name (ys ++ xs)))

-- xsl:element
abbrev pub element_made : NameMeaning → Meaning → Meaning
element_made name content env k = and_then (name env k) (λ n. element_with n content env)

-- xsl:attribute
abbrev pub attribute_made : NameMeaning → TextMeaning → Meaning
attribute_made name text env k =
    and_then (name env k) (λ n j. and_then (text env j) (new_attribute n))

-- xsl:comment
abbrev pub comment_made : TextMeaning → Meaning
comment_made text env k = and_then (text env k) (λ t. made (comment_of t))

-- xsl:processing-instruction
abbrev pub pi_made : TextMeaning → TextMeaning → Meaning
pi_made target text env k =
    and_then (target env k) (λ n j. and_then (text env j) (λ t. made (pi_of n t)))

-- a new node with an equal subtree; each node has one
abbrev pub copied_tree : Option Tree → ℕ → Outcome (List Item)
copied_tree None k = Ends [] k
copied_tree (Some t) k = made (Gives t) k

abbrev pub copied_item : Item → ℕ → Outcome (List Item)
copied_item (Node n) k = copied_tree (subtree_of n) k
copied_item (Atom a) k = Ends (Atom a ∷ []) k

-- xsl:copy-of
abbrev pub copy_of : Meaning → Meaning
copy_of select env k = and_then (select env k) (for_each copied_item)

-- an element or a document is made anew with the content, any other node is copied
abbrev pub copied_with : Option Tree → Meaning → Meaning
copied_with None content env k = Ends [] k
copied_with (Some (tree.Doc kids)) content env k = document_with content env k
copied_with (Some (tree.Elem name attributes kids)) content env k = element_with name content env k
copied_with (Some (tree.Text t)) content env k = made (Gives (tree.Text t)) k
copied_with (Some (tree.Comment t)) content env k = made (Gives (tree.Comment t)) k
copied_with (Some (tree.Pi target t)) content env k = made (Gives (tree.Pi target t)) k
copied_with (Some (tree.Attr name t)) content env k = made (Gives (tree.Attr name t)) k

abbrev pub copied_item_with : Item → Meaning → Meaning
copied_item_with (Node n) content env k = copied_with (subtree_of n) content env k
copied_item_with (Atom a) content env k = Ends (Atom a ∷ []) k

abbrev pub copied_focus : Option (Placed Item) → Meaning → Meaning
copied_focus None content env k = Fails (SheetDynamic XTTE0945)
copied_focus (Some f) content env k = copied_item_with f.value content env k

-- xsl:copy
abbrev pub copy_made : Meaning → Meaning
copy_made content env k = copied_focus env.focus content env k
