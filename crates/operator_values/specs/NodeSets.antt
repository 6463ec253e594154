-- How lists of nodes are searched.
use Rattle.std.specs.Prelude.{List, [], ◌∷◌, Bool, true, false, not}
use Rattle.std.specs.declared.cmp.Ordering.{Ordering}
use Rattle.std.specs.Ordering.{nat_cmp, ordering_then}
use Rattle.std.specs.List.{list_any}
use Rattle.xt_tree.specs.Place.{Place, place_cmp}
use Rattle.xdm_items.specs.declared.items.Item.{Item}
use Rattle.xdm_items.specs.declared.items.Item.TheVariants.{Node, Atom}
use Rattle.operator_values.specs.Nodes.{same_node, is_among}

-- the nodes among the items
abbrev pub places_of : List Item → List Place
places_of [] = []
places_of (Node n ∷ rest) = n ∷ places_of rest
places_of (Atom a ∷ rest) = places_of rest

-- the order of the nodes of all trees: by the number of the tree, and then document order
abbrev pub order_of_all : Place → Place → Ordering
order_of_all a b = ordering_then (nat_cmp a.number b.number) (place_cmp a b)

-- whether the item is one of the nodes
abbrev pub is_listed : List Place → Item → Bool
is_listed places (Node n) = list_any (same_node n) places
is_listed places (Atom a) = false

-- what is found, or what is not
abbrev pub is_wanted : Bool → Bool → Bool
is_wanted true found = found
is_wanted false found = not found

-- whether the item is wanted of those that are listed, or of those that are not
abbrev pub is_kept : Bool → List Place → Item → Bool
is_kept among places x = is_wanted among (is_listed places x)

-- the same of those that are among the others
abbrev pub is_chosen : Bool → List Item → Item → Bool
is_chosen among ys x = is_wanted among (is_among ys x)
