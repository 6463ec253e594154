-- What a look-up among pairs in document order answers (XSLT 2.0, 16.3).
use Rattle.std.specs.Prelude.{◌≡◌, List, [], ◌∷◌, Bool, true, false, ◌&&◌}
use Rattle.std.specs.List.{list_any}
use Rattle.std.specs.Ordering.{is_lt, is_le, is_eq}
use Rattle.xt_tree.specs.Place.{Place}
use Rattle.xdm_items.specs.declared.items.Item.{Item}
use Rattle.xdm_items.specs.declared.items.Item.TheVariants as item
use Rattle.order_group.specs.Groups.{atoms_of, has_key}
use Rattle.key_index.specs.Nodes.{is_at, node_order}
use Rattle.key_index.specs.declared.indexes.KeyPair.{KeyPair}

-- the node is at no place after those of the pairs
abbrev pub IsFirst : Place → List KeyPair → Type 0
IsFirst n [] = Unit {0}
IsFirst n (p ∷ pairs) = (is_le (node_order n p.node) ≡ true) × IsFirst n pairs

-- the pairs stand in document order; those of one node stand beside each other
abbrev pub StandInOrder : List KeyPair → Type 0
StandInOrder [] = Unit {0}
StandInOrder (p ∷ pairs) = IsFirst p.node pairs × StandInOrder pairs

-- two nodes, of which the first comes before the second
abbrev pub is_before : Item → Item → Bool
is_before (item.Node a) (item.Node b) = is_lt (node_order a b)
is_before x y = false

abbrev pub IsBefore : Item → List Item → Type 0
IsBefore x [] = Unit {0}
IsBefore x (y ∷ items) = (is_before x y ≡ true) × IsBefore x items

abbrev pub is_node : Item → Bool
is_node (item.Node n) = true
is_node (item.Atom a) = false

-- nodes in document order, each of them once
abbrev pub Rise : List Item → Type 0
Rise [] = Unit {0}
Rise (x ∷ items) = (is_node x ≡ true) × IsBefore x items × Rise items

-- the pair gives the node a value that is the same as a given one
abbrev pub gives : List Item → Place → KeyPair → Bool
gives values n p = has_key p.value (atoms_of values) && is_eq (node_order p.node n)

-- in document order, each once, and a node is there exactly where a pair gives it such a value
pub record IsKeyAnswer (pairs : List KeyPair) (values items : List Item) : Type 0 where
  pub rise : Rise items
  pub nodes : (n : Place) → list_any (λ x. is_at x n) items ≡ list_any (gives values n) pairs
