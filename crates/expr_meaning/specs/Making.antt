-- Constructors (XQuery 1.0, 3.7).
use Rattle.std.specs.Prelude.{ℕ, ◌+◌, List, [], ◌∷◌, ◌++◌, map, Option, Some, None}
use Rattle.xt_names.specs.declared.names.Name.{Name}
use Rattle.xt_tree.specs.declared.trees.Tree.{Tree}
use Rattle.xt_tree.specs.declared.trees.Tree.TheVariants as tree
use Rattle.xt_atoms.specs.AtomTexts.{text_of}
use Rattle.xdm_items.specs.declared.items.Item.{Item}
use Rattle.xdm_items.specs.declared.items.Item.TheVariants.{Node, Atom}
use Rattle.node_builder.specs.Made.{Made, Gives, Fails as Refuses}
use Rattle.node_builder.specs.Simple.{joined_with}
use Rattle.node_builder.specs.Trees.{numbered, element_of, document_of, comment_of, pi_of}
use Rattle.node_builder.specs.Answers.{root_place as new_root}
use Rattle.node_builder.specs.declared.kinds.Duplicates.TheVariants.{Refuse}
use Rattle.expr_meaning.specs.Outcomes.Outcome.{Outcome, Ends, Fails, and_then, for_each}
use Rattle.operator_values.specs.Operands.{atom_of}
use Rattle.expr_meaning.specs.Env.{Program, Env, Meaning}
use Rattle.expr_meaning.specs.Names.{NameMeaning, element_name_at, attribute_name_at, target_at}

-- the tree with the next number, as a node
abbrev pub made_outcome : ℕ → Made Tree → Outcome (List Item)
made_outcome k (Gives t) = Ends (Node (new_root k t) ∷ []) (k + 1)
made_outcome k (Refuses code) = Fails code

abbrev pub made : Made Tree → ℕ → Outcome (List Item)
made t k = made_outcome k (numbered k t)

-- the texts of the atoms of the items, with a space between them
unfoldable pub spaced_text : List Item → List ℕ
spaced_text xs = joined_with (32 ∷ []) (map (λ x. text_of (atom_of x)) xs)

-- `element n { a }` and `document { a }`
abbrev pub element_made : Program → NameMeaning → Meaning → Meaning
element_made program name content env k =
    and_then (element_name_at program name env k) (λ n j.
    and_then (content env j) (λ xs. made (element_of Refuse n xs)))

abbrev pub document_made : Meaning → Meaning
document_made content env k = and_then (content env k) (λ xs. made (document_of Refuse xs))

-- `attribute n { a }`
abbrev pub attribute_made : Program → NameMeaning → Meaning → Meaning
attribute_made program name value env k =
    and_then (attribute_name_at program name env k) (λ n j.
    and_then (value env j) (λ xs. made (Gives (tree.Attr n (spaced_text xs)))))

-- `text { a }`: no node of the empty list
abbrev pub text_node : List Item → ℕ → Outcome (List Item)
text_node [] k = Ends [] k
text_node (x ∷ xs) k = made (Gives (tree.Text (spaced_text (x ∷ xs)))) k

abbrev pub text_made : Meaning → Meaning
text_made value env k = and_then (value env k) text_node

-- `comment { a }` and `processing-instruction n { a }`
abbrev pub comment_made : Meaning → Meaning
comment_made value env k = and_then (value env k) (λ xs. made (comment_of (spaced_text xs)))

abbrev pub pi_made : NameMeaning → Meaning → Meaning
pi_made name value env k =
    and_then (target_at name env k) (λ target j.
    and_then (value env j) (λ xs. made (pi_of target (spaced_text xs))))

-- A part of a direct element or of an attribute of one: characters, `{ a }`, or an element.
pub data PartMeaning : Type 0 where
  chars : List ℕ → PartMeaning
  enclosed : Meaning → PartMeaning
  child : Meaning → PartMeaning

-- literal content has no number
abbrev pub literal_node : Tree → Item
literal_node t = Node (new_root 0 t)

-- the text of a run of atoms, if one stands before, with the text of one more after a space
abbrev pub with_text : Option (List ℕ) → List ℕ → Option (List ℕ)
with_text None text = Some text
with_text (Some run) text = Some (run ++ 32 ∷ text)

abbrev pub text_item : Option (List ℕ) → List Item
text_item None = []
text_item (Some text) = literal_node (tree.Text text) ∷ []

-- the items, and before them the text of a run of atoms that stands right before
abbrev pub joined_behind : Option (List ℕ) → List Item → List Item
joined_behind run [] = text_item run
joined_behind run (Atom a ∷ xs) = joined_behind (with_text run (text_of a)) xs
joined_behind run (Node n ∷ xs) = text_item run ++ Node n ∷ joined_behind None xs

-- each longest run of atoms as one text, with a space between the atoms
unfoldable pub joined_atoms : List Item → List Item
joined_atoms xs = joined_behind None xs

-- the text of an attribute's part
abbrev pub attribute_part : Env → PartMeaning → ℕ → Outcome (List ℕ)
attribute_part env (chars text) k = Ends text k
attribute_part env (enclosed m) k = and_then (m env k) (λ xs j. Ends (spaced_text xs) j)
attribute_part env (child m) k = Ends [] k

abbrev pub attribute_text : List PartMeaning → Env → ℕ → Outcome (List ℕ)
attribute_text parts env k = for_each (attribute_part env) parts k

abbrev pub AttributeMeaning : Type 0
AttributeMeaning = Name × List PartMeaning

abbrev pub direct_attribute : Env → AttributeMeaning → ℕ → Outcome (List Item)
direct_attribute env a k =
    and_then (attribute_text a.1 env k) (λ text j.
    Ends (literal_node (tree.Attr a.0 text) ∷ []) j)

-- a part of the content
abbrev pub content_part : Env → PartMeaning → ℕ → Outcome (List Item)
content_part env (chars text) k = Ends (literal_node (tree.Text text) ∷ []) k
content_part env (enclosed m) k = and_then (m env k) (λ xs j. Ends (joined_atoms xs) j)
content_part env (child m) k = m env k

-- the attributes in order, the content in order, and then the element
abbrev pub direct_made : Name → List AttributeMeaning → List PartMeaning → Meaning
direct_made name attributes parts env k =
    and_then (for_each (direct_attribute env) attributes k) (λ ys j.
    and_then (for_each (content_part env) parts j) (λ xs.
    made (element_of Refuse name (ys ++ xs))))
