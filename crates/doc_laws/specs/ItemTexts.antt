-- Which items have a text.
use Rattle.std.specs.Prelude.{◌≡◌, ℕ, List, Bool, true, false, not, Option, Some, None, is_some}
use Rattle.std.specs.List.{list_any}
use Rattle.xt_tree.specs.Place.{subtree_of}
use Rattle.xt_tree.specs.declared.trees.Tree.{Tree}
use Rattle.xdm_items.specs.declared.items.Item.{Item}
use Rattle.xdm_items.specs.declared.items.Item.TheVariants.{Node, Atom}
use Rattle.node_builder.specs.Complex.{is_attribute}
use Rattle.node_builder.specs.SoundItems.{are_sound_items}

-- the tree below a node; each node has one
abbrev pub is_attribute_below : Option Tree → Bool
is_attribute_below None = false
is_attribute_below (Some t) = is_attribute t

abbrev pub is_attribute_item : Item → Bool
is_attribute_item (Node n) = is_attribute_below (subtree_of n)
is_attribute_item (Atom a) = false

-- sound items have a text, written so, exactly where none of them is an attribute
abbrev pub AttributesHaveNoText : (List Item → Option (List ℕ)) → Type 0
AttributesHaveNoText written =
    (items : List Item) → are_sound_items items ≡ true → is_some (written items) ≡ not (list_any is_attribute_item items)
