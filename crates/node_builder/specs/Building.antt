-- Content while it is made, in one pass over the items.
use Rattle.std.specs.Prelude.{ℕ, List, [], ◌∷◌, ◌++◌, Bool, true, false, not, ◌||◌, if◌then◌else◌, Option, Some, None}
use Rattle.xt_names.specs.Allowed.{is_empty_text}
use Rattle.xt_names.specs.declared.names.Name.{Name}
use Rattle.xt_atoms.specs.AtomTexts.{text_of}
use Rattle.xt_tree.specs.Place.{subtree_of}
use Rattle.xt_tree.specs.TreeView.{trees}
use Rattle.xt_tree.specs.declared.attributes.Attribute.{Attribute}
use Rattle.xt_tree.specs.declared.trees.Tree.{Tree}
use Rattle.xt_tree.specs.declared.trees.Tree.TheVariants.{Doc, Elem, Text, Comment, Pi, Attr}
use Rattle.xdm_items.specs.declared.items.Item.{Item}
use Rattle.xdm_items.specs.declared.items.Item.TheVariants.{Node, Atom}
use Rattle.node_builder.specs.Made.{Made, Gives, Fails, made_then, made_each}
use Rattle.node_builder.specs.Complex.{misplaced, distinct}
use Rattle.node_builder.specs.declared.contents.Content.{Content}
use Rattle.node_builder.specs.declared.contents.ContentBuilder.{ContentBuilder}
use Rattle.node_builder.specs.declared.texts.Pending.{Pending}
use Rattle.node_builder.specs.declared.texts.Pending.TheVariants.{Nothing, Shared, Joined}
use Rattle.node_builder.specs.declared.kinds.Duplicates.{Duplicates}
use Rattle.node_builder.specs.declared.kinds.Holder.{Holder}
use Rattle.node_builder.specs.declared.kinds.Holder.TheVariants.{Element, Document}

-- the attributes and the trees that are done, the text after them to which more may come, whether there is any child, and
-- whether an atom is at the end
pub record Built : Type 0 where
  pub attributes : List Attribute
  pub done : List Tree
  pub pending : List ℕ
  pub begun : Bool
  pub after_atom : Bool

abbrev pub pending_text : Pending → List ℕ
pending_text Nothing = []
pending_text (Shared t) = t
pending_text (Joined t) = t

abbrev pub built : ContentBuilder → Built
built b = record { attributes = b.attributes; done = b.done; pending = pending_text b.pending; begun = b.begun; after_atom = b.after_atom }

abbrev pub empty : Built
empty = record { attributes = []; done = []; pending = []; begun = false; after_atom = false }

-- the text as a node, unless it is empty
abbrev pub flushed : List ℕ → List Tree
flushed [] = []
flushed (c ∷ cs) = Text (c ∷ cs) ∷ []

-- all children
abbrev pub all_of : Built → List Tree
all_of b = b.done ++ flushed b.pending

abbrev pub with_text : Built → List ℕ → Built
with_text b t = record b { pending = b.pending ++ t; begun = b.begun || not (is_empty_text t) }

-- a tree that is neither a text nor an attribute
abbrev pub with_kid : Built → Tree → Built
with_kid b x = record b { done = all_of b ++ x ∷ []; pending = []; begun = true }

-- an element takes attributes until it has a child
abbrev pub takes_attributes : Holder → Built → Bool
takes_attributes Element b = not b.begun
takes_attributes Document b = false

unfoldable pub with_attribute : Duplicates → Holder → Built → Name → List ℕ → Made Built
with_attribute side holder b n t =
    if takes_attributes holder b then Gives (record b { attributes = b.attributes ++ record { name = n; value = t } ∷ [] }) else Fails (misplaced side holder)

abbrev pub with_tree : Duplicates → Holder → Built → Tree → Made Built
with_tree side holder b (Doc kids) = Gives (with_kid b (Doc kids))
with_tree side holder b (Elem name attributes kids) = Gives (with_kid b (Elem name attributes kids))
with_tree side holder b (Text t) = Gives (with_text b t)
with_tree side holder b (Comment t) = Gives (with_kid b (Comment t))
with_tree side holder b (Pi target t) = Gives (with_kid b (Pi target t))
with_tree side holder b (Attr name t) = with_attribute side holder b name t

abbrev pub with_trees : Duplicates → Holder → Built → List Tree → Made Built
with_trees side holder b xs = made_each (with_tree side holder) b xs

-- a node: a document gives its children
abbrev pub with_opened : Duplicates → Holder → Built → Tree → Made Built
with_opened side holder b (Doc kids) = with_trees side holder b (trees kids)
with_opened side holder b (Elem name attributes kids) = with_tree side holder b (Elem name attributes kids)
with_opened side holder b (Text t) = with_tree side holder b (Text t)
with_opened side holder b (Comment t) = with_tree side holder b (Comment t)
with_opened side holder b (Pi target t) = with_tree side holder b (Pi target t)
with_opened side holder b (Attr name t) = with_tree side holder b (Attr name t)

abbrev pub behind_node : Built → Built
behind_node b = record b { after_atom = false }

-- each node has a tree
abbrev pub with_node : Duplicates → Holder → Built → Option Tree → Made Built
with_node side holder b None = Gives b
with_node side holder b (Some x) = with_opened side holder (behind_node b) x

-- an atom: a space parts it from an atom before it
abbrev pub with_space : Built → Built
with_space b = record b { pending = b.pending ++ 32 ∷ []; begun = true }

abbrev pub with_gap : Built → Built
with_gap b = if b.after_atom then with_space b else b

abbrev pub with_atom : Built → List ℕ → Built
with_atom b t = record (with_text (with_gap b) t) { after_atom = true }

abbrev pub with_item : Duplicates → Holder → Built → Item → Made Built
with_item side holder b (Node n) = with_node side holder b (subtree_of n)
with_item side holder b (Atom a) = Gives (with_atom b (text_of a))

abbrev pub with_items : Duplicates → Holder → Built → List Item → Made Built
with_items side holder b items = made_each (with_item side holder) b items

-- the content at the end
abbrev pub finished : Duplicates → Built → Made Content
finished side b = made_then (distinct side b.attributes) (λ kept. Gives (record { attributes = kept; kids = all_of b }))
