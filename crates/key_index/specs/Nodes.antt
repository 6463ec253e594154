-- Nodes in a list, each of them once.
use Rattle.std.specs.Prelude.{◌-◌, Bool, false, List, [], ◌∷◌, ◌++◌, length, slice_get, if◌then◌else◌}
use Rattle.std.specs.Option.{option_map_or}
use Rattle.std.specs.Ordering.{nat_cmp, ordering_then, is_eq}
use Rattle.std.specs.declared.cmp.Ordering.{Ordering}
use Rattle.xt_tree.specs.Place.{Place, place_cmp}
use Rattle.xdm_items.specs.declared.items.Item.{Item}
use Rattle.xdm_items.specs.declared.items.Item.TheVariants as item

-- trees by their numbers, and the nodes of one tree in document order
abbrev pub node_order : Place → Place → Ordering
node_order a b = ordering_then (nat_cmp a.number b.number) (place_cmp a b)

abbrev pub is_at : Item → Place → Bool
is_at (item.Node last) node = is_eq (node_order last node)
is_at (item.Atom a) node = false

-- whether the last item is the node
abbrev pub stands_last : List Item → Place → Bool
stands_last items node = option_map_or (λ last. is_at last node) (slice_get items (length items - 1)) false

-- with the node at the end, unless it is there
abbrev pub put_node : List Item → Place → List Item
put_node items node = if stands_last items node then items else items ++ item.Node node ∷ []
